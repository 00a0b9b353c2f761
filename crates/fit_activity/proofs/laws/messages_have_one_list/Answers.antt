use Rattle.fit_activity.proofs.OneList.Reheard.{one-list}
use Rattle.fit_activity.proofs.laws.messages_have_one_list.Goals as goal

pub returns : goal.returns
returns c = one-list
