-- Stretches of a recording, and what they add up to. A stretch goes from the start or a lap to the next lap, or to the end.
use Rattle.std.specs.Prelude.{ℕ, ◌+◌, ◌-◌, ◌*◌, ◌/◌, Bool, true, false, List, [], length, sum, max, count_by, Option, Some, None, unwrap_or, option_map, nat_lt, ◌==◌, if◌then◌else◌}
use Rattle.std.specs.List.{filter_map, reduce, before_last, after_last}
use Rattle.fit_activity.specs.declared.recording.entry.Entry.TheVariants.{Sample, Lap}
use Rattle.fit_activity.specs.declared.totals.summary.Stretch.{Stretch}
use Rattle.fit_activity.specs.declared.totals.summary.LapSummary.{LapSummary}
use Rattle.fit_activity.specs.declared.totals.summary.SessionSummary.{SessionSummary}
use Rattle.fit_activity.specs.declared.totals.summary.ActivitySummary.{ActivitySummary}
use Rattle.fit_activity.specs.Rides.Recording.{Recorded, Started, Added, time_of, is_lap, last_given, start_time, sport_of}
use Rattle.fit_activity.specs.Rides.Timer.{timer}

-- the greater of two values, or the only one
abbrev pub greater_of : Option ℕ → Option ℕ → Option ℕ
greater_of one None = one
greater_of None (Some other) = Some other
greater_of (Some one) (Some other) = Some (max one other)

-- a sample's distance, heart rate, speed and power, if it has them; its speed is the greater of the two that it may have
abbrev pub distance_of : Recorded → Option ℕ
distance_of (Added (Sample s)) = s.distance
distance_of _ = None

abbrev pub heart_rate_of : Recorded → Option ℕ
heart_rate_of (Added (Sample s)) = s.heart_rate
heart_rate_of _ = None

abbrev pub speed_of : Recorded → Option ℕ
speed_of (Added (Sample s)) = greater_of s.speed s.enhanced_speed
speed_of _ = None

abbrev pub power_of : Recorded → Option ℕ
power_of (Added (Sample s)) = s.power
power_of _ = None

-- the last distance known
abbrev pub known_distance : List Recorded → Option ℕ
known_distance list = last_given distance_of list

-- the time of the last element; 0 if there is none
abbrev pub end_time : List Recorded → ℕ
end_time list = unwrap_or (last_given (λ r. Some (time_of r)) list) 0

-- the elements that begin a stretch, and their times
abbrev pub begins_stretch : Recorded → Bool
begins_stretch (Started s) = true
begins_stretch (Added (Lap time)) = true
begins_stretch _ = false

abbrev pub begin_of : Recorded → Option ℕ
begin_of r = if begins_stretch r then Some (time_of r) else None

-- the open stretch: the elements after the last start or lap, its time, and the elements before them
abbrev pub open_stretch : List Recorded → List Recorded
open_stretch list = after_last begins_stretch list

abbrev pub open_from : List Recorded → ℕ
open_from list = unwrap_or (last_given begin_of list) 0

abbrev pub before_open : List Recorded → List Recorded
before_open list = before_last begins_stretch list

-- the floor of the sum over the count, if there are values
abbrev pub average : List ℕ → Option ℕ
average values = if length values == 0 then None else Some (sum values / length values)

-- the greatest value, if there are values
abbrev pub greatest : List ℕ → Option ℕ
greatest values = reduce max values

-- the last distance known at the end, less the last one known at the beginning, or less 0 if none was known there
abbrev pub distance_between : Option ℕ → Option ℕ → Option ℕ
distance_between at_begin at_end = option_map (λ d. d - unwrap_or at_begin 0) at_end

-- a speed in a summary, in mm/s: none above 65534
abbrev pub stated_speed : Option ℕ → Option ℕ
stated_speed None = None
stated_speed (Some speed) = if nat_lt 65534 speed then None else Some speed

-- mm/s from cm and seconds: none if there is no distance or the seconds are 0
abbrev pub speed_over : Option ℕ → ℕ → Option ℕ
speed_over None secs = None
speed_over (Some distance) secs =
    if secs == 0 then None else stated_speed (Some (10 * distance / secs))

-- the summary of the stretch of a list from one second to another, by the elements before it and in it
abbrev pub summary : List Recorded → List Recorded → List Recorded → ℕ → ℕ → Stretch
summary list before inside from to =
    let distance = distance_between (known_distance before) (known_distance list) in
    record {
      start = from;
      end = to;
      elapsed = 1000 * (to - from);
      timer = 1000 * timer list from to;
      distance = distance;
      average_speed = speed_over distance (timer list from to);
      greatest_speed = stated_speed (greatest (filter_map speed_of inside));
      average_heart_rate = average (filter_map heart_rate_of inside);
      greatest_heart_rate = greatest (filter_map heart_rate_of inside);
      average_power = average (filter_map power_of inside);
      greatest_power = greatest (filter_map power_of inside);
    }

-- the lap, if the open stretch ends at this time; laps are numbered from 0
abbrev pub lap_at : List Recorded → ℕ → LapSummary
lap_at list time =
    record {
      index = count_by is_lap list;
      stretch = summary list (before_open list) (open_stretch list) (open_from list) time;
    }

-- the same at the last entry's time
abbrev pub lap_of : List Recorded → LapSummary
lap_of list = lap_at list (end_time list)

-- the session is the whole list; the open stretch is its last lap
abbrev pub session_of : List Recorded → SessionSummary
session_of list =
    record {
      sport = sport_of list;
      laps = count_by is_lap list + 1;
      stretch = summary list [] list (start_time list) (end_time list);
    }

abbrev pub activity_of : List Recorded → ActivitySummary
activity_of list =
    record {
      time = end_time list;
      timer = 1000 * timer list (start_time list) (end_time list);
    }
