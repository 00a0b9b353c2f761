use Rattle.std.proofs.Common.{ap, ◌∙◌}
use Rattle.fit_activity.specs.Private.Step.{lap_by}
use Rattle.fit_activity.proofs.RunningTotals.Summed.{lap-now}
use Rattle.fit_activity.proofs.totals.Totals.lap.Goals as goal

pub returns : goal.returns
returns c = λ list are. c.lap_by.ensures ∙ ap (λ k. lap_by c.args.self.now k.clock) c.self.view_is ∙ lap-now _ list are
