use Rattle.std.proofs.Common.{◌≡◌, drop}
use Rattle.fit_disk.specs.Cycle.{is_outside}
use Rattle.fit_disk.proofs.memory_file.is_outside_of.Given as goal

abbrev pub invariant-loop-at : goal.invariant-loop-at
invariant-loop-at l = is_outside l.place (drop l.at-index l.ranges) ≡ is_outside l.place l.ranges
