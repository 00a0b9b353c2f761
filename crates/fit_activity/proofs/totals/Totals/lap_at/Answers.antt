use Rattle.std.proofs.Common.{ap, ◌∙◌, subst}
use Rattle.fit_activity.specs.Rides.RunningTotals.{KeepsTime}
use Rattle.fit_activity.specs.Private.Step.{lap_by, clock_until}
use Rattle.fit_activity.proofs.RunningTotals.Summed.{lap-later}
use Rattle.fit_activity.proofs.totals.Totals.lap_at.Goals as goal

pub returns : goal.returns
returns c = λ list are.
    let keeps = subst (λ k. KeepsTime k.clock) c.self.view_is c.self.invariant.0 in
    c.lap_by.ensures
    ∙ ap (lap_by c.args.self.now) c.until.ensures.clock
    ∙ ap (λ k. lap_by c.args.self.now (clock_until k.clock c.args.time)) c.self.view_is
    ∙ lap-later _ list c.args.time keeps c.requires.later are
