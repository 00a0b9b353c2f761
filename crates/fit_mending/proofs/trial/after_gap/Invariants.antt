use Rattle.std.proofs.Common.{◌≤◌, ◌-◌}
use Rattle.fit_mending.specs.Private.Counting.{TakesLooks}
use Rattle.fit_mending.proofs.trial.after_gap.Given as goal

abbrev pub invariant-loop-count : goal.invariant-loop-count
invariant-loop-count l = (1 ≤ l.count) × (l.count ≤ 64) × TakesLooks l.initial.looks l.looks (l.count - 1)
