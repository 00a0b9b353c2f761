use Rattle.std.proofs.Common.{ap, sym, ◌∙◌}
use Rattle.std.specs.Prelude.{◌||◌, nat_lt}
use Rattle.fit_activity.specs.declared.totals.summary.LapSummary.{LapSummary}
use Rattle.fit_activity.specs.Rides.Stretch.{lap_of}
use Rattle.fit_finishing.proofs.closing.went_on.Goals as goal

pub returns-else-running : goal.returns-else-running
returns-else-running c = λ list are.
    ap (λ (lap : LapSummary). nat_lt 0 lap.stretch.elapsed) (c.lap.ensures list are)
    ∙ ap (λ b. b || nat_lt 0 (lap_of list).stretch.elapsed) (sym c.if-running.false ∙ c.running.ensures list are)
