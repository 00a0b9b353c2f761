use Rattle.std.proofs.Common.{◌≡◌}
use Rattle.fit_shifting.specs.Private.Row.{MovedSoFar}
use Rattle.fit_shifting.proofs.file.moved_file.Given as goal

abbrev pub invariant-loop-item : goal.invariant-loop-item
invariant-loop-item l = record {
  frame : l.shifted.frame ≡ l.fn.plain.frame;
  so_far : MovedSoFar l.shift l.fn.plain l.shifted.items l.item-iterator;
}
