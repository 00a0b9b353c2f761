-- Why a start or an entry is refused. An entry has eight causes, each by the list before it and the entry;
-- the first that applies is the refusal.
use Rattle.std.specs.Prelude.{◌≡◌, ℕ, ◌+◌, Bool, true, false, List, [], ◌∷◌, ◌++◌, Option, Some, None, unwrap_or, option_map, nat_lt, nat_le, ◌==◌, ◌&&◌, ◌||◌, not, count_by, find, if◌then◌else◌}
use Rattle.std.specs.Option.{option_or}
use Rattle.fit_activity.specs.declared.recording.start.Start.{Start}
use Rattle.fit_activity.specs.declared.recording.entry.Sample.{Sample as AnySample}
use Rattle.fit_activity.specs.declared.recording.entry.Entry.{Entry}
use Rattle.fit_activity.specs.declared.recording.entry.Entry.TheVariants.{Sample, Pause, Resume}
use Rattle.fit_activity.specs.declared.recording.refusal.Refusal.{Refusal}
use Rattle.fit_activity.specs.declared.recording.refusal.Refusal.TheVariants.{Stopped, Time, TooLong, TimerStopped, TimerRunning, TooManyLaps, Value, Distance}
use Rattle.fit_activity.specs.Rides.Recording.{Recorded, Started, Added, StartFits, EntryFits, entry_time, is_lap, is_stop, start_time, last_given}
use Rattle.fit_activity.specs.Rides.Timer.{runs_now}
use Rattle.fit_activity.specs.Rides.Stretch.{end_time, known_distance, distance_of}
use Rattle.fit_activity.specs.declared.speaking.profile_field.ProfileField.{ProfileField}
use Rattle.fit_activity.specs.Messages.ProfileField.{present, is_invalid}
use Rattle.fit_activity.specs.Messages.ProfileMessage.{sample_options}

-- a start's time must be a calendar time, and not the invalid one
abbrev pub start_refusal : Start → Option Refusal
start_refusal s = if nat_lt s.time 0x10000000 || (s.time == 0xFFFFFFFF) then Some Time else None

-- the list ends with a stop
abbrev pub has_stopped : List Recorded → Bool
has_stopped list = unwrap_or (last_given (λ r. Some (is_stop r)) list) false

-- the time is below the last one, or is the invalid one
abbrev pub has_wrong_time : List Recorded → Entry → Bool
has_wrong_time list e = nat_lt (entry_time e) (end_time list) || (entry_time e == 0xFFFFFFFF)

-- the time is more than 4,000,000 s after the start
abbrev pub is_too_late : List Recorded → Entry → Bool
is_too_late list e = nat_lt (start_time list + 4000000) (entry_time e)

-- a sample or a pause requires a running timer, a resume a stopped one
abbrev pub wants_timer : Entry → Bool
wants_timer (Sample s) = true
wants_timer (Pause time) = true
wants_timer _ = false

abbrev pub is_resume : Entry → Bool
is_resume (Resume time) = true
is_resume _ = false

-- a lap after 999 laps
abbrev pub is_lap_too_many : List Recorded → Entry → Bool
is_lap_too_many list e = is_lap (Added e) && nat_le 999 (count_by is_lap list)

-- the number of the first present field that holds its type's invalid value
abbrev pub first_invalid_in : List (Option ProfileField) → Option ℕ
first_invalid_in fields = option_map (λ field. field.number) (find is_invalid (present fields))

-- the least such number, because the fields of a sample are in the order of their numbers
abbrev pub invalid_field_of : AnySample → Option ℕ
invalid_field_of s = first_invalid_in (sample_options s)

abbrev pub invalid_field : Entry → Option ℕ
invalid_field (Sample s) = invalid_field_of s
invalid_field _ = None

-- the distance is less than the last one known
abbrev pub is_less : Option ℕ → Option ℕ → Bool
is_less (Some distance) (Some known) = nat_lt distance known
is_less _ _ = false

abbrev pub loses_distance : List Recorded → Entry → Bool
loses_distance list e = is_less (distance_of (Added e)) (known_distance list)

-- the first cause that applies
abbrev pub refusal_of : List Recorded → Entry → Option Refusal
refusal_of list e =
    if has_stopped list then Some Stopped
    else if has_wrong_time list e then Some Time
    else if is_too_late list e then Some TooLong
    else if wants_timer e && not (runs_now list) then Some TimerStopped
    else if is_resume e && runs_now list then Some TimerRunning
    else if is_lap_too_many list e then Some TooManyLaps
    else option_or (option_map Value (invalid_field e)) (if loses_distance list e
    then Some Distance else None)

-- each entry has its numbers in range, and is not refused after the list and the entries before it
abbrev pub AllowedAfter : List Recorded → List Recorded → Type 0
AllowedAfter before [] = Unit {0}
AllowedAfter before (Started s ∷ list) = ⊥
AllowedAfter before (Added e ∷ list) =
    EntryFits e × (refusal_of before e ≡ None) × AllowedAfter (before ++ Added e ∷ []) list

-- a start that is not refused, and then entries that are not refused
abbrev pub Allowed : List Recorded → Type 0
Allowed [] = ⊥
Allowed (Added e ∷ list) = ⊥
Allowed (Started s ∷ list) =
    StartFits s × (start_refusal s ≡ None) × AllowedAfter (Started s ∷ []) list

-- the number of a refusal
abbrev pub refusal_code : Refusal → ℕ
refusal_code Time = 1
refusal_code Distance = 2
refusal_code (Value field) = 3
refusal_code TimerStopped = 4
refusal_code TimerRunning = 5
refusal_code TooLong = 6
refusal_code TooManyLaps = 7
refusal_code Stopped = 8
