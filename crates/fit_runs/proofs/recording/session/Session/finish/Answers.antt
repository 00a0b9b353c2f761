use Rattle.std.proofs.Common.{◌≡◌, ◌+◌, [], ◌∷◌, ◌++◌, append-nil, ap, ◌∙◌, sym, true, false}
use Rattle.fit_runs.specs.Exchanges.{told}
use Rattle.fit_runs.specs.Rides.Turns.{Asked, commit_at, refused_in, rides_after}
use Rattle.fit_runs.proofs.Reported.Recorded.{prints_none, no_commit, one_commit}
use Rattle.fit_runs.proofs.recording.session.Session.finish.Goals as goal

pub returns-then-not-is_riding-clause-ended : goal.returns-then-not-is_riding-clause-ended
returns-then-not-is_riding-clause-ended g c = λ every old turns known.
    let none : rides_after false turns ≡ false = sym known.riding ∙ sym c.is_riding.ensures ∙ c.if-not-is_riding.true in (
      [],
      rw (append-nil turns) (record { may = known.may; leaves = c.into_disk.ensures every old turns known }),
      no_commit _ (c.args.self.line + 1) none,
      known.counted ∙ ap refused_in (sym (append-nil turns)),
      prints_none (told (g.P.Dialogue.story c.args.dialogue.now)) c.args.self.refused,
    )

pub returns-in-Ok-clause-ended : goal.returns-in-Ok-clause-ended
returns-in-Ok-clause-ended g c = λ every old turns known.
    let asked = rw c.commit_at-commit.ensures at c.ask-session.ensures.asked every old turns known in
    let end = Asked (commit_at (c.args.self.line + 1)) asked.0 asked.1 ∷ [] in
    let one : rides_after false turns ≡ true = sym known.riding ∙ sym c.is_riding.ensures ∙ c.if-not-is_riding.false in (
      end,
      record { may = asked.2.may; leaves = c.into_disk-in-Ok.ensures every old (turns ++ end) asked.2 },
      one_commit _ (c.args.self.line + 1) asked.0 asked.1 one,
      asked.2.counted,
      rw c.in-Ok.is at asked.4,
    )

pub returns-in-Err-clause-ended : goal.returns-in-Err-clause-ended
returns-in-Err-clause-ended g c = λ every old turns known.
    let asked = rw c.commit_at-commit.ensures at c.ask-session.ensures.asked every old turns known in
    let end = Asked (commit_at (c.args.self.line + 1)) asked.0 asked.1 ∷ [] in
    let one : rides_after false turns ≡ true = sym known.riding ∙ sym c.is_riding.ensures ∙ c.if-not-is_riding.false in (
      end,
      record { may = asked.2.may; leaves = c.into_disk-in-Err.ensures every old (turns ++ end) asked.2 },
      one_commit _ (c.args.self.line + 1) asked.0 asked.1 one,
      tt,
      rw c.in-Err.is at asked.4,
    )
