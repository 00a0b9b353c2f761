-- The timer. A start or a resume starts it, a pause or a stop stops it. It counts whole seconds.
use Rattle.std.specs.Prelude.{ℕ, zero, suc, ◌+◌, ◌-◌, Bool, true, false, List, Option, Some, None, unwrap_or, nat_le, if◌then◌else◌}
use Rattle.fit_activity.specs.declared.recording.entry.Entry.TheVariants.{Sample, Lap, Pause, Resume, Stop}
use Rattle.fit_activity.specs.Rides.Recording.{Recorded, Started, Added, time_of, last_given}

-- whether an element starts the timer, stops it, or leaves it unchanged
abbrev pub switch_of : Recorded → Option Bool
switch_of (Started s) = Some true
switch_of (Added (Sample s)) = None
switch_of (Added (Lap time)) = None
switch_of (Added (Pause time)) = Some false
switch_of (Added (Resume time)) = Some true
switch_of (Added (Stop time)) = Some false

-- the same, if its time is at most this second
abbrev pub switch_by : ℕ → Recorded → Option Bool
switch_by second r = if nat_le (time_of r) second then switch_of r else None

-- the timer runs at a second if the last switch with a time of at most that second started it
abbrev pub is_running : List Recorded → ℕ → Bool
is_running list second = unwrap_or (last_given (switch_by second) list) false

-- the timer runs after the whole list
abbrev pub runs_now : List Recorded → Bool
runs_now list = unwrap_or (last_given switch_of list) false

-- how many of the n seconds from this one on pass the test
abbrev pub seconds : (ℕ → Bool) → ℕ → ℕ → ℕ
seconds test from zero = 0
seconds test from (suc n) = seconds test from n + (if test (from + n) then 1 else 0)

-- how many seconds s with from <= s < to the timer runs
abbrev pub timer : List Recorded → ℕ → ℕ → ℕ
timer list from to = seconds (is_running list) from (to - from)
