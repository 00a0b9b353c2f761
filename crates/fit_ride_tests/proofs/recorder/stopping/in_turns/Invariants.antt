use Rattle.std.proofs.Common.{true}
use Rattle.fit_disk.specs.Memory.{memory_story}
use Rattle.fit_recorder.specs.Calls.Recorder.{GoesOn}
use Rattle.fit_ride_tests.proofs.recorder.stopping.in_turns.Given as goal

-- the recorder can continue
abbrev pub invariant-loop-set : goal.invariant-loop-set
invariant-loop-set g l = GoesOn true memory_story l.recorder
