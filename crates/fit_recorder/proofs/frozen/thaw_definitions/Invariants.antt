use Rattle.std.proofs.Common.{◌≡◌, take, length}
use Rattle.fit_recorder.specs.Calls.Frozen.{definitions_in}
use Rattle.fit_recorder.proofs.frozen.thaw_definitions.Given as goal

abbrev pub invariant-loop-k : goal.invariant-loop-k
invariant-loop-k l = (length l.slots ≡ 8) × (take l.k l.slots ≡ take l.k (definitions_in l.numbers))
