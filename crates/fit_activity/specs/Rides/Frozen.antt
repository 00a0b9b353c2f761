-- The totals that frozen numbers stand for. A flag is set where it is 1.
use Rattle.std.specs.Prelude.{ℕ, ◌≤◌, ◌==◌, if◌then◌else◌, Option, Some, None}
use Rattle.fit_activity.specs.declared.recording.start.Sport.{Sport}
use Rattle.fit_activity.specs.declared.recording.start.Sport.TheVariants.{Generic, Running, Cycling}
use Rattle.fit_activity.specs.declared.totals.clock.Clock.{Clock}
use Rattle.fit_activity.specs.declared.totals.frozen.FrozenClock.{FrozenClock}
use Rattle.fit_activity.specs.declared.totals.frozen.FrozenSums.{FrozenSums}
use Rattle.fit_activity.specs.declared.totals.frozen.FrozenTally.{FrozenTally}
use Rattle.fit_activity.specs.declared.totals.frozen.FrozenTotals.{FrozenTotals}
use Rattle.fit_activity.specs.declared.totals.sums.Sums.{Sums}
use Rattle.fit_activity.specs.declared.totals.tally.Tally.{Tally}
use Rattle.fit_activity.specs.Rides.RunningTotals.{TotalsState, KeepsTime}

-- a number that is there if its flag is set
abbrev pub if_set : ℕ → ℕ → Option ℕ
if_set flag number = if flag == 1 then Some number else None

-- the sport of a number of the profile
abbrev pub sport_in : ℕ → Sport
sport_in number = if number == 0 then Generic else if number == 1 then Running else Cycling

abbrev pub tally_in : FrozenTally → Tally
tally_in f =
    record {
      total = f.total;
      count = f.count;
      greatest = if_set f.has_greatest f.greatest;
    }

abbrev pub sums_in : FrozenSums → Sums
sums_in f = record {
  known = f.known;
  speed = if_set f.has_speed f.speed;
  heart_rate = tally_in f.heart_rate;
  power = tally_in f.power;
}

abbrev pub clock_in : FrozenClock → Clock
clock_in f = record {
  start = f.start;
  end = f.end;
  lap = f.lap;
  running = f.running == 1;
  timer = f.timer;
  lap_timer = f.lap_timer;
}

abbrev pub totals_in : FrozenTotals → TotalsState
totals_in f = record {
  start = record { time = f.time; serial = f.serial; sport = sport_in f.sport };
  clock = clock_in f.clock;
  stopped = f.stopped == 1;
  laps = f.laps;
  distance = if_set f.has_distance f.distance;
  whole = sums_in f.whole;
  lap = sums_in f.lap;
}

-- running totals may have these numbers
pub record ArePossibleTotals (f : FrozenTotals) : Type 0 where
  pub clock : KeepsTime (clock_in f.clock)
  pub laps : f.laps ≤ 999
