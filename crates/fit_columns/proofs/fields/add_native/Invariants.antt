use Rattle.std.proofs.Common.{◌≡◌, ◌+◌, ◌≤◌, ◌++◌, length, map}
use Rattle.fit_columns.specs.Fields.{native_here}
use Rattle.fit_columns.proofs.fields.add_native.Given as goal

abbrev pub invariant-loop-left : goal.invariant-loop-left
invariant-loop-left l = record {
  made : l.fields.items ++ map native_here l.left ≡ l.initial.fields.items ++ map native_here l.native;
  few : length l.fields.items + length l.left ≤ 510;
}

abbrev pub decreases-loop-left : goal.decreases-loop-left
decreases-loop-left l = length l.left
