use Rattle.std.proofs.Common.{List, [], ◌∷◌, ◌++◌, true, append-nil, subst, sym}
use Rattle.fit_runs.specs.Exchanges.{told}
use Rattle.fit_runs.specs.Rides.Heard.{line_of}
use Rattle.fit_runs.specs.Rides.Listening.{HasHeard}
use Rattle.fit_runs.specs.Rides.Turns.{Turn}
use Rattle.fit_runs.proofs.Reported.Heard.{heard_other, heard_newline}
use Rattle.fit_runs.proofs.recording.listener.Listener.take_byte.Goals as goal

pub returns-then-byte-ne10-clause-heard : goal.returns-then-byte-ne10-clause-heard
returns-then-byte-ne10-clause-heard g c = λ every old bytes turns before known. (
  [],
  subst (λ (all : List Turn). HasHeard g.D.Disk.honest g.D.Disk.story every old (bytes ++ c.args.byte ∷ []) all before
      (record { session = c.args.self.session; held = c.add.new.self }) (told (g.P.Dialogue.story c.args.dialogue.now))) (sym (append-nil turns))
      (heard_other g.D.Disk.honest g.D.Disk.story every old bytes turns c.args.byte before (told (g.P.Dialogue.story c.args.dialogue.now)) c.args.self c.add.new.self known c.if-byte-ne10.true
      (c.add.ensures known.line known.held)),
  tt,
)

pub returns-clause-heard : goal.returns-clause-heard
returns-clause-heard g c = λ every old bytes turns before known.
    let ran = c.take_line-session.ensures.outcome (line_of true known.line) every old turns (c.line.ensures.line known.line known.held)
    (c.line.ensures.long known.line known.held) known.so_far in
    let heard = heard_newline g.D.Disk.honest g.D.Disk.story every old bytes turns c.args.byte before (told (g.P.Dialogue.story c.args.dialogue.now))
    (told (g.P.Dialogue.story c.take_line-session.new.dialogue)) c.args.self c.take_line-session.result.0 c.new.result ran.0
    c.take_line-session.result.1 known c.if-byte-ne10.false ran.1 ran.2 ran.3 c.take_line-session.ensures.number c.new.ensures in
    (ran.0, heard.0, heard.1)
