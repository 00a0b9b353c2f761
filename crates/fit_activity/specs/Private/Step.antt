-- Running totals with one more entry, by the numbers that they keep.
use Rattle.std.specs.Prelude.{ℕ, ◌+◌, ◌-◌, ◌*◌, ◌/◌, ◌^◌, ◌<◌, Bool, true, false, Option, Some, None, unwrap_or, option_map, option_and_then, nat_lt, nat_le, not, ◌==◌, ◌&&◌, ◌||◌, if◌then◌else◌}
use Rattle.std.specs.Option.{option_or}
use Rattle.fit_activity.specs.declared.recording.start.Start.{Start}
use Rattle.fit_activity.specs.declared.recording.entry.Sample.{Sample as AnySample}
use Rattle.fit_activity.specs.declared.recording.entry.Entry.{Entry}
use Rattle.fit_activity.specs.declared.recording.entry.Entry.TheVariants.{Sample, Lap, Pause, Resume, Stop}
use Rattle.fit_activity.specs.declared.totals.summary.Stretch.{Stretch}
use Rattle.fit_activity.specs.declared.totals.summary.LapSummary.{LapSummary}
use Rattle.fit_activity.specs.declared.totals.summary.SessionSummary.{SessionSummary}
use Rattle.fit_activity.specs.declared.totals.summary.ActivitySummary.{ActivitySummary}
use Rattle.fit_activity.specs.declared.totals.clock.Clock.{Clock}
use Rattle.fit_activity.specs.declared.totals.tally.Tally.{Tally}
use Rattle.fit_activity.specs.declared.totals.sums.Sums.{Sums}
use Rattle.fit_activity.specs.Rides.RunningTotals.{TotalsState}
use Rattle.fit_activity.specs.declared.recording.refusal.Refusal.{Refusal}
use Rattle.fit_activity.specs.declared.recording.refusal.Refusal.TheVariants.{Stopped, Time, TooLong, TimerStopped, TimerRunning, TooManyLaps, Value, Distance}
use Rattle.fit_activity.specs.Rides.Recording.{Added, entry_time, is_lap}
use Rattle.fit_activity.specs.Rides.Stretch.{greater_of, distance_of, stated_speed, speed_over}
use Rattle.fit_activity.specs.Rides.Refusal.{wants_timer, is_resume, is_less, invalid_field_of, invalid_field}

-- the clock of a start; at a later time; with the timer running or stopped; and at the beginning of a lap
abbrev pub clock_at : ℕ → Clock
clock_at time =
    record {
      start = time;
      end = time;
      lap = time;
      running = true;
      timer = 0;
      lap_timer = 0;
    }

abbrev pub more_seconds : Clock → ℕ → ℕ
more_seconds clock time = if clock.running then time - clock.end else 0

abbrev pub clock_until : Clock → ℕ → Clock
clock_until clock time =
    record clock {
      end = time;
      timer = clock.timer + more_seconds clock time;
      lap_timer = clock.lap_timer + more_seconds clock time;
    }

abbrev pub clock_switched : Clock → Bool → Clock
clock_switched clock running = record clock { running = running }

abbrev pub clock_lapped : Clock → Clock
clock_lapped clock = record clock { lap = clock.end; lap_timer = 0 }

-- the tally of no values; with one more value, if there is one
abbrev pub no_tally : Tally
no_tally = record { total = 0; count = 0; greatest = None }

abbrev pub tally_with : Tally → Option ℕ → Tally
tally_with tally None = tally
tally_with tally (Some value) =
    record {
      total = tally.total + value;
      count = tally.count + 1;
      greatest = greater_of tally.greatest (Some value);
    }

-- the value, if it is below 65536; if it is below 256
abbrev pub in_two_bytes : ℕ → Option ℕ
in_two_bytes n = if nat_lt n 65536 then Some n else None

abbrev pub in_one_byte : Option ℕ → Option ℕ
in_one_byte value = option_and_then (λ n. if nat_lt n 256 then Some n else None) value

abbrev pub average_of : Tally → Option ℕ
average_of tally = if tally.count == 0 then None else in_two_bytes (tally.total / tally.count)

-- the sums of no samples, and with one more sample
abbrev pub sums_at : Option ℕ → Sums
sums_at distance =
    record {
      known = unwrap_or distance 0;
      speed = None;
      heart_rate = no_tally;
      power = no_tally;
    }

abbrev pub sums_with : Sums → AnySample → Sums
sums_with sums s =
    record sums {
      speed = greater_of sums.speed (greater_of s.speed s.enhanced_speed);
      heart_rate = tally_with sums.heart_rate s.heart_rate;
      power = tally_with sums.power s.power;
    }

-- the sums can take one more value
pub record TallyHasRoom (tally : Tally) : Type 0 where
  pub total : tally.total < 2 ^ 60
  pub count : tally.count < 2 ^ 60

pub record SumsHaveRoom (sums : Sums) : Type 0 where
  pub heart_rate : TallyHasRoom sums.heart_rate
  pub power : TallyHasRoom sums.power

-- the stretch with these sums and times, and the distance known at its end
abbrev pub stretch_by : Sums → ℕ → ℕ → ℕ → Option ℕ → Stretch
stretch_by sums from to secs known =
    let distance = option_map (λ d. d - sums.known) known in
    record {
      start = from;
      end = to;
      elapsed = 1000 * (to - from);
      timer = 1000 * secs;
      distance = distance;
      average_speed = speed_over distance secs;
      greatest_speed = stated_speed sums.speed;
      average_heart_rate = in_one_byte (average_of sums.heart_rate);
      greatest_heart_rate = in_one_byte sums.heart_rate.greatest;
      average_power = average_of sums.power;
      greatest_power = sums.power.greatest;
    }

-- the totals of a start, by their parts
abbrev pub totals_from : Start → Clock → Sums → Sums → TotalsState
totals_from start clock whole lap =
    record {
      start = start;
      clock = clock;
      stopped = false;
      laps = 0;
      distance = None;
      whole = whole;
      lap = lap;
    }

abbrev pub totals_at : Start → TotalsState
totals_at start = totals_from start (clock_at start.time) (sums_at None) (sums_at None)

-- the open lap by the clock at its end, the session, and the activity
abbrev pub lap_by : TotalsState → Clock → LapSummary
lap_by totals clock =
    record {
      index = totals.laps;
      stretch = stretch_by totals.lap clock.lap clock.end clock.lap_timer totals.distance;
    }

abbrev pub session_by : TotalsState → SessionSummary
session_by totals =
    record {
      sport = totals.start.sport;
      laps = totals.laps + 1;
      stretch =
          stretch_by totals.whole totals.clock.start totals.clock.end totals.clock.timer totals.distance;
    }

abbrev pub activity_by : TotalsState → ActivitySummary
activity_by totals = record { time = totals.clock.end; timer = 1000 * totals.clock.timer }

-- the totals with one more entry: first the clock reaches its time
abbrev pub totals_until : TotalsState → ℕ → TotalsState
totals_until totals time = record totals { clock = clock_until totals.clock time }

abbrev pub totals_after : TotalsState → Entry → TotalsState
totals_after totals (Sample s) =
    record (totals_until totals s.time) {
      distance = option_or s.distance totals.distance;
      whole = sums_with totals.whole s;
      lap = sums_with totals.lap s;
    }
totals_after totals (Lap time) =
    record (totals_until totals time) {
      clock = clock_lapped (clock_until totals.clock time);
      laps = totals.laps + 1;
      lap = sums_at totals.distance;
    }
totals_after totals (Pause time) = record totals {
  clock = clock_switched
      (clock_until totals.clock time) false;
}
totals_after totals (Resume time) = record totals {
  clock = clock_switched
      (clock_until totals.clock time) true;
}
totals_after totals (Stop time) = record totals {
  clock = clock_switched
      (clock_until totals.clock time) false;
  stopped = true;
}

-- the refusal of an entry, by the numbers that are kept
abbrev pub refusal_by_values : TotalsState → AnySample → Option Refusal
refusal_by_values totals s =
    option_or (option_map Value (invalid_field_of s)) (if is_less s.distance totals.distance
    then Some Distance else None)

abbrev pub refusal_by_kind : TotalsState → Entry → Option Refusal
refusal_by_kind totals e =
    if wants_timer e && not totals.clock.running then Some TimerStopped
    else if is_resume e && totals.clock.running then Some TimerRunning
    else if is_lap (Added e) && nat_le 999 totals.laps then Some TooManyLaps
    else option_or (option_map Value (invalid_field e))
    (if is_less (distance_of (Added e)) totals.distance then Some Distance else None)

abbrev pub refusal_by : TotalsState → Entry → Option Refusal
refusal_by totals e =
    if totals.stopped then Some Stopped
    else if nat_lt (entry_time e) totals.clock.end || (entry_time e == 0xFFFFFFFF) then Some Time
    else if nat_lt (totals.clock.start + 4000000) (entry_time e) then Some TooLong
    else refusal_by_kind totals e
