use Rattle.std.proofs.Common.{◌≤◌, length}
use Rattle.fit_c.proofs.Chained.{LeftToCount}
use Rattle.fit_c.proofs.joining.place_of.Given as goal

abbrev pub invariant-loop-left : goal.invariant-loop-left
invariant-loop-left l = record {
  within : length l.rest ≤ length l.bytes;
  counts : LeftToCount l.bytes l.number l.left l.rest;
}

abbrev pub decreases-loop-left : goal.decreases-loop-left
decreases-loop-left l = l.left
