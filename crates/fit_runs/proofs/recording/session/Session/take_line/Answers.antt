use Rattle.std.proofs.Common.{◌≡◌, ◌+◌, Some, None, false, [], ◌∷◌, append-nil, refl, ◌∙◌, inl, inr, sym, arith}
use Rattle.fit_runs.specs.Exchanges.{told}
use Rattle.fit_runs.specs.Rides.Turns.{Asked, Faulty}
use Rattle.fit_runs.proofs.Reported.Recorded.{line_means, none_unless, prints_none, so_far_same, so_far_faulty}
use Rattle.fit_runs.proofs.recording.session.Session.take_line.Goals as goal

pub returns-in-Ok-None-clause-outcome : goal.returns-in-Ok-None-clause-outcome
returns-in-Ok-None-clause-outcome g c = λ bytes every old turns same long known.
    let ride : c.at-session.result.ride ≡ c.args.self.ride = rw c.at-session.ensures refl in
    let clock : c.at-session.result.clock ≡ c.args.self.clock = rw c.at-session.ensures refl in
    let refused : c.at-session.result.refused ≡ c.args.self.refused = rw c.at-session.ensures refl in
    let means = line_means c.args.line bytes None c.in-Ok-None.ensures.short (rw c.in-Ok-None.field-0-is at c.in-Ok-None.ensures.meaning) same in (
      [],
      inl (means, refl),
      so_far_same g.D.Disk.honest g.D.Disk.story every old turns _ c.args.self c.at-session.result known (sym (append-nil turns)) ride clock refused,
      prints_none (told (g.P.Dialogue.story c.args.dialogue.now)) (tt {0}),
    )

pub returns-in-Ok-Some-clause-outcome : goal.returns-in-Ok-Some-clause-outcome
returns-in-Ok-Some-clause-outcome g c = λ bytes every old turns same long known.
    let ride : c.at-session.result.ride ≡ c.args.self.ride = rw c.at-session.ensures refl in
    let clock : c.at-session.result.clock ≡ c.args.self.clock = rw c.at-session.ensures refl in
    let refused : c.at-session.result.refused ≡ c.args.self.refused = rw c.at-session.ensures refl in
    let command = c.in-Ok-Some.command in
    let means = line_means c.args.line bytes (Some command) c.in-Ok-Some.ensures.short (rw c.in-Ok-Some.field-0-is at c.in-Ok-Some.ensures.meaning) same in
    let replayed = rw c.in-Ok-Some.field-0-is at c.in-Ok-Some.ensures.replayed in
    let here = so_far_same g.D.Disk.honest g.D.Disk.story every old turns turns c.args.self c.at-session.result known refl ride clock refused in
    let ran = c.run.ensures.ran every old turns here in (
      Asked (record { line = c.args.self.line + 1; command = command }) ran.0 ran.1 ∷ ran.2,
      inr (Asked (record { line = c.args.self.line + 1; command = command }) ran.0 ran.1, ran.2, (refl, means, replayed), ran.3, refl),
      ran.4,
      ran.5,
    )

pub returns-in-Err-clause-outcome : goal.returns-in-Err-clause-outcome
returns-in-Err-clause-outcome g c = λ bytes every old turns same long known.
    let ride : c.at-session.result.ride ≡ c.args.self.ride = rw c.at-session.ensures refl in
    let clock : c.at-session.result.clock ≡ c.args.self.clock = rw c.at-session.ensures refl in
    let refused : c.at-session.result.refused ≡ c.args.self.refused = rw c.at-session.ensures refl in
    let line : c.at-session.result.line ≡ c.args.self.line + 1 = rw c.at-session.ensures refl in
    let fault = c.in-Err.fault in (
      Faulty (c.args.self.line + 1) fault ∷ [],
      inr (Faulty (c.args.self.line + 1) fault, [], (refl, c.in-Err.ensures.fault bytes same long), none_unless c.refuse.result.1 false (c.args.self.line + 1) refl, refl),
      so_far_faulty g.D.Disk.honest g.D.Disk.story every old turns c.args.self c.refuse.result.0 (c.args.self.line + 1) fault known
          (c.refuse.ensures.ride ∙ ride) (c.refuse.ensures.clock ∙ clock) (omega (arith, c.refuse.ensures.few, refused)),
      rw line at c.refuse.ensures.printed,
    )
