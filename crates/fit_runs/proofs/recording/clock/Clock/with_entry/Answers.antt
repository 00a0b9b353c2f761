use Rattle.std.proofs.Common.{◌≡◌, ℕ, false, refl}
use Rattle.fit_activity.specs.declared.recording.entry.Entry.{Entry}
use Rattle.fit_activity.specs.declared.recording.entry.Entry.TheVariants.{Stop}
use Rattle.fit_activity.specs.Rides.Recording.{Added, is_stop}
use Rattle.fit_runs.proofs.recording.clock.Clock.with_entry.Goals as goal

no_stop : (entry : Entry) → ((time : ℕ) → entry ≡ Stop time → ⊥) → is_stop (Added entry) ≡ false
no_stop (Stop time) other = absurd (other time refl)
no_stop entry other = refl

pub returns-in_default : goal.returns-in_default
returns-in_default c =
    let timed = rw c.time.ensures at c.with_time.ensures in
    rw (no_stop c.args.entry.now c.in_default.not-Stop) (record { shows = λ every times known last. timed.shows every times known; due = timed.due })
