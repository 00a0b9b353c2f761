use Rattle.std.proofs.Common.{◌+◌, ◌≤◌, List, length}
use Rattle.fit_activity.specs.Rides.Recording.{Recorded}
use Rattle.fit_activity.specs.Rides.RunningTotals.{AreTotals}
use Rattle.fit_activity_tests.proofs.activity.ride.Given as goal

abbrev pub invariant-loop-entry : goal.invariant-loop-entry
invariant-loop-entry g l = (list : List Recorded) × AreTotals l.totals list × (length list ≤ l.entry-index + 1)
