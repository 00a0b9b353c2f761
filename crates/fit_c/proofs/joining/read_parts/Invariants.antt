use Rattle.std.proofs.Common.{◌≡◌, ◌≤◌, length}
use Rattle.fit_c.specs.Joined.{IsReadTo}
use Rattle.fit_c.proofs.joining.read_parts.Given as goal

abbrev pub invariant-loop-rest : goal.invariant-loop-rest
invariant-loop-rest l = record {
  read : IsReadTo l.bytes l.rest l.parts.items;
  some : 1 ≤ length l.parts.items;
  place : l.fault_place ≡ l.initial.fault_place;
}

abbrev pub decreases-loop-rest : goal.decreases-loop-rest
decreases-loop-rest l = length l.rest
