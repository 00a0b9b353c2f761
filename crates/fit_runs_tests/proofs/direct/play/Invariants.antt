use Rattle.std.proofs.Common.{true, IfOk}
use Rattle.fit_disk.specs.Memory.{memory_story}
use Rattle.fit_recorder.specs.Calls.Recorder.{GoesOn}
use Rattle.fit_runs_tests.proofs.direct.play.Given as goal

-- the recorder can continue, if one runs
abbrev pub invariant-loop-event : goal.invariant-loop-event
invariant-loop-event l = IfOk l.played (GoesOn true memory_story)
