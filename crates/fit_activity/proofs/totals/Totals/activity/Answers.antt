use Rattle.std.proofs.Common.{ap, ◌∙◌}
use Rattle.fit_activity.specs.Private.Step.{activity_by}
use Rattle.fit_activity.proofs.RunningTotals.Summed.{activity-kept}
use Rattle.fit_activity.proofs.totals.Totals.activity.Goals as goal

pub returns : goal.returns
returns c = λ list are. ap activity_by c.self.view_is ∙ activity-kept _ list are
