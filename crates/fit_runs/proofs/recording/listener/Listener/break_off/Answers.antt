use Rattle.fit_runs.specs.Exchanges.{told}
use Rattle.fit_runs.proofs.Reported.Heard.{reads_failed, commit_failed}
use Rattle.fit_runs.proofs.recording.listener.Listener.break_off.Goals as goal

pub returns-in-Ok-clause-outcome : goal.returns-in-Ok-clause-outcome
returns-in-Ok-clause-outcome g c = λ every old bytes turns before known.
    let ended = c.finish-disk.ensures.ended every old turns known.so_far in (
      ended.0,
      reads_failed g.D.Disk.honest g.D.Disk.story every old _ bytes turns before (told (g.P.Dialogue.story c.args.dialogue.now))
          (told (g.P.Dialogue.story c.finish-disk.new.dialogue)) c.args.self ended.0 c.args.why known ended.1 ended.2 (rw c.in-Ok.is at ended.4),
    )

pub returns-in-Err-clause-outcome : goal.returns-in-Err-clause-outcome
returns-in-Err-clause-outcome g c = λ every old bytes turns before known.
    let ended = c.finish-disk.ensures.ended every old turns known.so_far in (
      ended.0,
      commit_failed g.D.Disk.honest g.D.Disk.story every old _ bytes turns before (told (g.P.Dialogue.story c.args.dialogue.now))
          (told (g.P.Dialogue.story c.finish-disk.new.dialogue)) c.args.self ended.0 c.in-Err.fault known ended.1 ended.2
          (rw c.in-Err.is at c.finish-disk.ensures.fault) (rw c.in-Err.is at ended.4),
    )
