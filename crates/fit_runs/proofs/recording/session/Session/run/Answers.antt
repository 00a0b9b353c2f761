use Rattle.std.proofs.Common.{◌∙◌, [], ◌∷◌, ◌++◌, append_assoc, refl, sym, inr}
use Rattle.fit_runs.specs.Exchanges.{told}
use Rattle.fit_runs.specs.Rides.Turns.{Asked, commit_at}
use Rattle.fit_runs.proofs.Exchanged.{only_then}
use Rattle.fit_runs.proofs.Reported.Recorded.{no_commit, one_unless, prints_then, so_far_same}
use Rattle.fit_runs.proofs.recording.session.Session.run.Goals as goal

pub returns-in-Ok-clause-ran : goal.returns-in-Ok-clause-ran
returns-in-Ok-clause-ran g c = λ every old turns known.
    let first = c.ask-session.ensures.asked every old turns known in
    let one = Asked c.args.event.now first.0 first.1 in
    let second = rw c.commit_at-commit.ensures at c.ask.ensures.asked every old (turns ++ one ∷ []) first.2 in
    let more = Asked (commit_at c.args.event.now.line) second.0 second.1 ∷ [] in (
      first.0,
      first.1,
      more,
      one_unless _ _ c.args.event.now.line second.0 second.1 (sym first.3 ∙ sym c.is_due.ensures ∙ c.if-is_due.true),
      so_far_same g.D.Disk.honest g.D.Disk.story every old ((turns ++ one ∷ []) ++ more) (turns ++ one ∷ more) c.ask.result.0 c.ask.result.0 second.2
          (append_assoc turns (one ∷ []) more) refl refl refl,
      prints_then (told (g.P.Dialogue.story c.args.dialogue.now)) (told (g.P.Dialogue.story c.ask-session.new.dialogue))
          (told (g.P.Dialogue.story c.ask.new.dialogue)) (one ∷ []) more c.ask.result.1 (rw c.in-Ok.is at first.4) second.4,
    )

pub returns-in-Ok-2-clause-ran : goal.returns-in-Ok-2-clause-ran
returns-in-Ok-2-clause-ran g c = λ every old turns known.
    let first = c.ask-session.ensures.asked every old turns known in
    (first.0, first.1, [], no_commit _ c.args.event.now.line (sym first.3 ∙ sym c.is_due.ensures ∙ c.if-is_due.false), first.2, rw c.in-Ok-2.is at first.4)

pub returns-in-Err-clause-ran : goal.returns-in-Err-clause-ran
returns-in-Err-clause-ran g c = λ every old turns known.
    let first = c.ask-session.ensures.asked every old turns known in
    (first.0, first.1, [], inr refl, first.2, rw c.in-Err.is at first.4)

pub returns-in-Ok-clause-tells : goal.returns-in-Ok-clause-tells
returns-in-Ok-clause-tells g c = only_then _ _ _ _ _ _ c.ask-session.ensures.tells c.ask.ensures.tells
