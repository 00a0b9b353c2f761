use Rattle.fit_text.proofs.PenLemmas.{places_same, places_then}
use Rattle.fit_text.proofs.FormLemmas.{name_parts}
use Rattle.fit_text.proofs.writing.member.place_member.Goals as goal

pub returns-clause-place : goal.returns-clause-place
returns-clause-place c =
    places_same
    (places_then (places_then c.place_opening-at.ensures.place c.place_inner-at.ensures.place) (places_then c.place_byte-at.ensures c.place_byte.ensures))
    (name_parts c.args.is_first _)
