-- When a recording commits by itself.
use Rattle.std.specs.Prelude.{◌≡◌, ℕ, ◌-◌, Bool, false, nat_le, List, [], ◌∷◌, take, Option, Some, None, if◌then◌else◌}
use Rattle.fit_activity.specs.Rides.Recording.{Added, entry_time, is_stop}
use Rattle.fit_histories.specs.declared.command.Command.{Command}
use Rattle.fit_histories.specs.declared.command.Command.TheVariants as commands
use Rattle.fit_runs.specs.declared.recording.clock.Clock.{Clock}

-- The times since the last commit: from the time of the ride when it was asked for to the last entry that was taken, the newest first. A
-- start is a commit, and so is a reopening, at the last time of the ride that it found. A commit counts whatever is answered.
abbrev pub times_on : List ℕ → Command → Bool → ℕ → List ℕ
times_on times (commands.Start start) done last = if done then start.time ∷ [] else []
times_on times (commands.Entry entry) done last =
    if done then (if is_stop (Added entry) then [] else entry_time entry ∷ times) else times
times_on times commands.Commit done last = take 1 times
times_on times commands.Reopen done last = if done then last ∷ [] else []
times_on times _ done last = []

-- the last of these times, before which is this one
abbrev pub oldest : ℕ → List ℕ → ℕ
oldest time [] = time
oldest time (earlier ∷ times) = oldest earlier times

-- so many seconds or more have passed
abbrev pub is_passed : Option ℕ → ℕ → Bool
is_passed None passed = false
is_passed (Some seconds) passed = nat_le seconds passed

-- the command is an entry that was taken, and it is so many seconds or more after the oldest time
abbrev pub is_due : Option ℕ → List ℕ → Command → Bool → Bool
is_due every times (commands.Entry entry) done =
    if done then (if is_stop (Added entry)
    then false else is_passed every (entry_time entry - oldest (entry_time entry) times)) else false
is_due every times _ done = false

-- ---- for the calls

abbrev pub newest_of : List ℕ → Option ℕ
newest_of [] = None
newest_of (time ∷ times) = Some time

abbrev pub oldest_of : List ℕ → Option ℕ
oldest_of [] = None
oldest_of (time ∷ times) = Some (oldest time times)

-- a clock shows the first and the last of these times
pub record Shows (every : Option ℕ) (times : List ℕ) (clock : Clock) : Type 0 where
  pub seconds : clock.every ≡ every
  pub latest : clock.latest ≡ newest_of times
  pub committed : clock.committed ≡ oldest_of times
