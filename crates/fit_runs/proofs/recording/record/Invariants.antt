use Rattle.std.proofs.Common.{◌*◌}
use Rattle.fit_runs.specs.Rides.Listening.{CanHear, HasRecorded}
use Rattle.fit_runs.proofs.recording.record.Given as goal

abbrev pub invariant-loop : goal.invariant-loop
invariant-loop g l = record {
  able : CanHear g.D.Disk.honest g.D.Disk.story (l.counter * 65536) l.listener;
  recorded : HasRecorded g.D.Disk.honest g.D.Disk.story l.fn.every (g.D.Disk.story l.fn.disk) (g.P.Dialogue.story l.initial.dialogue)
      (g.P.Dialogue.story l.dialogue) (g.P.Dialogue.sides l.initial.dialogue) (g.P.Dialogue.sides l.dialogue) l.counter l.listener;
}
