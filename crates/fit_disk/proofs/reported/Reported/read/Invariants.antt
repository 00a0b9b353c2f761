use Rattle.std.proofs.Common.{◌≡◌, ◌≤◌, IsTrue, length, take, drop}
use Rattle.fit_disk.specs.Story.{seen_of}
use Rattle.fit_disk.proofs.reported.Reported.read.Given as goal

abbrev pub invariant-loop : goal.invariant-loop
invariant-loop g l = record {
  within : l.count ≤ length l.buffer;
  bytes : IsTrue g.W.Witness.honest → take l.count l.buffer ≡ take l.count (drop l.fn.at (seen_of l.fn.which (g.W.Witness.story l.fn.self.witness)));
}
