use Rattle.fit_activity.proofs.FinishedActivity.Finished.{finished}
use Rattle.fit_activity.proofs.laws.recordings_are_activities.Goals as goal

pub returns : goal.returns
returns c = finished
