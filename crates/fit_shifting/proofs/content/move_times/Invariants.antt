use Rattle.std.proofs.Common.{◌≡◌, ◌-◌, ◌≤◌, ◌++◌, length, take, drop}
use Rattle.fit_shifting.specs.Private.Content.{times_moved}
use Rattle.fit_shifting.proofs.content.move_times.Given as goal

abbrev pub invariant-loop-bytes : goal.invariant-loop-bytes
invariant-loop-bytes l = record {
  within : l.at ≤ length l.bytes;
  so_far : take l.at l.bytes ++ times_moved l.shift l.arch (drop l.at l.bytes) ≡ times_moved l.shift l.arch l.initial.bytes;
}

abbrev pub decreases-loop-bytes : goal.decreases-loop-bytes
decreases-loop-bytes l = length l.bytes - l.at
