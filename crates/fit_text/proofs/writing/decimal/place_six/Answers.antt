use Rattle.fit_text.proofs.PenLemmas.{places_then}
use Rattle.fit_text.proofs.writing.decimal.place_six.Goals as goal

pub returns : goal.returns
returns c = places_then c.place_three-at.ensures c.place_three.ensures
