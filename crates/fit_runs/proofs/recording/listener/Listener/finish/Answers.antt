use Rattle.std.proofs.Common.{◌++◌}
use Rattle.fit_runs.specs.Exchanges.{told}
use Rattle.fit_runs.proofs.Exchanged.{only_then}
use Rattle.fit_runs.proofs.Reported.Heard.{finished_whole, finished_last, failed_last}
use Rattle.fit_runs.proofs.recording.listener.Listener.finish.Goals as goal

pub returns-then-is_empty-clause-outcome : goal.returns-then-is_empty-clause-outcome
returns-then-is_empty-clause-outcome g c = λ every old bytes turns before known.
    let ended = c.finish.ensures.ended every old turns known.so_far in (
      ended.0,
      finished_whole g.D.Disk.honest g.D.Disk.story every old _ bytes turns before (told (g.P.Dialogue.story c.args.dialogue.now))
          (told (g.P.Dialogue.story c.finish.new.dialogue)) c.args.self ended.0 c.finish.result.1 known
          (c.is_empty.ensures.none known.line known.held c.if-is_empty.true) ended.1 ended.2 ended.3 c.finish.ensures.fault ended.4,
    )

pub returns-in-Ok-clause-outcome : goal.returns-in-Ok-clause-outcome
returns-in-Ok-clause-outcome g c = λ every old bytes turns before known.
    let ran = c.take_line-session.ensures.outcome known.line every old turns (c.line.ensures.line known.line known.held)
    (c.line.ensures.long known.line known.held) known.so_far in
    let ended = c.finish-in-Ok.ensures.ended every old (turns ++ ran.0) ran.2 in (
      ran.0 ++ ended.0,
      finished_last g.D.Disk.honest g.D.Disk.story every old _ bytes turns before (told (g.P.Dialogue.story c.args.dialogue.now))
          (told (g.P.Dialogue.story c.take_line-session.new.dialogue)) (told (g.P.Dialogue.story c.finish-in-Ok.new.dialogue)) c.args.self c.take_line-session.result.0 ran.0 ended.0 c.finish-in-Ok.result.1
          known (c.is_empty.ensures.some known.line known.held c.if-is_empty.false) (rw c.in-Ok.is at ran.1) c.take_line-session.ensures.number (rw c.in-Ok.is at ran.3)
          ended.1 ended.2 ended.3 c.finish-in-Ok.ensures.fault ended.4,
    )

pub returns-in-Err-clause-outcome : goal.returns-in-Err-clause-outcome
returns-in-Err-clause-outcome g c = λ every old bytes turns before known.
    let ran = c.take_line-session.ensures.outcome known.line every old turns (c.line.ensures.line known.line known.held)
    (c.line.ensures.long known.line known.held) known.so_far in (
      ran.0,
      failed_last g.D.Disk.honest g.D.Disk.story every old _ bytes turns before (told (g.P.Dialogue.story c.args.dialogue.now))
          (told (g.P.Dialogue.story c.take_line-session.new.dialogue)) c.args.self c.take_line-session.result.0 ran.0 c.in-Err.fault
          known (c.is_empty.ensures.some known.line known.held c.if-is_empty.false) (rw c.in-Err.is at ran.1) ran.2 (c.into_disk.ensures every old (turns ++ ran.0) ran.2)
          (rw c.in-Err.is at c.take_line-session.ensures.fault) (rw c.in-Err.is at ran.3),
    )

pub returns-in-Ok-clause-tells : goal.returns-in-Ok-clause-tells
returns-in-Ok-clause-tells g c = only_then _ _ _ _ _ _ c.take_line-session.ensures.tells c.finish-in-Ok.ensures.tells
