use Rattle.std.proofs.Common.{true}
use Rattle.fit_disk.specs.Memory.{memory_story}
use Rattle.fit_recorder.specs.Calls.Recorder.{GoesOn}
use Rattle.fit_ride_tests.proofs.recorder.stopping.begun_full.Given as goal

-- the recorder can continue
abbrev pub invariant-loop : goal.invariant-loop
invariant-loop l = GoesOn true memory_story l.recorder
