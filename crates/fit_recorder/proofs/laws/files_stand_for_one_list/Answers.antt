use Rattle.fit_recorder.proofs.RecoveredList.OneList.{one_list, not_nothing}
use Rattle.fit_recorder.proofs.laws.files_stand_for_one_list.Goals as goal

pub returns-clause-one : goal.returns-clause-one
returns-clause-one c list other contents stands others = one_list list other contents stands others

pub returns-clause-not_nothing : goal.returns-clause-not_nothing
returns-clause-not_nothing c list contents stands nothing = not_nothing list contents stands nothing
