use Rattle.fit_text.proofs.PenLemmas.{places_then}
use Rattle.fit_text.proofs.writing.member.place_opening.Goals as goal

pub returns-clause-place : goal.returns-clause-place
returns-clause-place c = rw c.if-is_first.false (places_then c.place_byte-at.ensures c.place_byte-2.ensures)
