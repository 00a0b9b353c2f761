use Rattle.std.proofs.Common.{◌≡◌, ◌++◌, length}
use Rattle.fit_columns.proofs.columns.codes_of.Given as goal

abbrev pub invariant-loop-left : goal.invariant-loop-left
invariant-loop-left l = l.numbers ≡ l.codes.items ++ l.left

abbrev pub decreases-loop-left : goal.decreases-loop-left
decreases-loop-left l = length l.left
