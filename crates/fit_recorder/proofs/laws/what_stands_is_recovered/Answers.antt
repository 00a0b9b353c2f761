use Rattle.fit_recorder.proofs.RecoveredList.OneList.{is_recovered}
use Rattle.fit_recorder.proofs.laws.what_stands_is_recovered.Goals as goal

pub returns : goal.returns
returns c list contents story result stands answers = is_recovered list contents story result stands answers
