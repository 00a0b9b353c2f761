use Rattle.std.proofs.Common.{◌≡◌, ◌≤◌, ◌++◌, length, take, drop}
use Rattle.fit_table.specs.Number.{digits}
use Rattle.fit_table.proofs.number.place_digits.Given as goal

abbrev pub invariant-loop-at : goal.invariant-loop-at
invariant-loop-at l = record {
  bound : l.at ≤ l.count;
  room : l.count ≤ length l.bytes;
  placed : digits l.at l.n ++ drop l.at (take l.count l.bytes) ≡ digits l.count l.initial.n;
}

abbrev pub decreases-loop-at : goal.decreases-loop-at
decreases-loop-at l = l.at
