use Rattle.std.proofs.Common.{true}
use Rattle.fit_disk.specs.Memory.{memory_story}
use Rattle.fit_recorder.specs.Calls.Recorder.{GoesOn}
use Rattle.fit_ride_tests.proofs.recorder.after.Given as goal

-- the recorder can continue
abbrev pub invariant-loop-number : goal.invariant-loop-number
invariant-loop-number g l = GoesOn true memory_story l.recorder
