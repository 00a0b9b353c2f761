-- When running totals are those of a list: each number that they keep, by the definitions over the list.
use Rattle.std.specs.Prelude.{◌≡◌, ℕ, ◌+◌, ◌≤◌, Bool, List, [], length, sum, count_by, Option, Some, unwrap_or}
use Rattle.std.specs.List.{filter_map, AllByRecursion}
use Rattle.fit_activity.specs.declared.totals.clock.Clock.{Clock}
use Rattle.fit_activity.specs.declared.totals.tally.Tally.{Tally}
use Rattle.fit_activity.specs.declared.totals.sums.Sums.{Sums}
use Rattle.fit_activity.specs.declared.recording.start.Start.{Start}
use Rattle.fit_activity.specs.Rides.Recording.{Recorded, is_lap, start_of, time_of}
use Rattle.fit_activity.specs.Rides.Timer.{runs_now, timer}
use Rattle.fit_activity.specs.Rides.Stretch.{heart_rate_of, speed_of, power_of, known_distance, end_time, open_stretch, open_from, before_open, greatest}
use Rattle.fit_activity.specs.Rides.Refusal.{has_stopped, Allowed}

-- the numbers that running totals keep
pub record TotalsState : Type 0 where
  pub start : Start
  pub clock : Clock
  pub stopped : Bool
  pub laps : ℕ
  pub distance : Option ℕ
  pub whole : Sums
  pub lap : Sums

-- the last time is at most 4,000,000 s after the start, the open lap begins between the two, and the timer ran no longer than the time
pub record KeepsTime (clock : Clock) : Type 0 where
  pub long : clock.end ≤ clock.start + 4000000
  pub begun : clock.start ≤ clock.lap
  pub timed : clock.start + clock.timer ≤ clock.end
  pub lap_timed : clock.lap + clock.lap_timer ≤ clock.end

-- no element is later than this
abbrev pub AreBy : ℕ → List Recorded → Type 0
AreBy second list = AllByRecursion (λ r. time_of r ≤ second) list

-- the times of the list, and for how many seconds the timer ran
pub record IsClock (clock : Clock) (list : List Recorded) : Type 0 where
  pub last : clock.end ≡ end_time list
  pub in_order : AreBy clock.end list
  pub switch : clock.running ≡ runs_now list
  pub begun : clock.lap ≡ open_from list
  pub counted : clock.timer ≡ timer list clock.start clock.end
  pub lap_counted : clock.lap_timer ≡ timer list clock.lap clock.end

-- the sum, the count and the greatest of values, none of which is above the bound
pub record IsTally (tally : Tally) (bound : ℕ) (values : List ℕ) : Type 0 where
  pub total : tally.total ≡ sum values
  pub count : tally.count ≡ length values
  pub most : tally.greatest ≡ greatest values
  pub bounded : AllByRecursion (λ value. value ≤ bound) values

-- what the samples of a stretch add up to, by the elements before it and in it
pub record AreSums (sums : Sums) (before inside : List Recorded) : Type 0 where
  pub known : sums.known ≡ unwrap_or (known_distance before) 0
  pub speed : sums.speed ≡ greatest (filter_map speed_of inside)
  pub heart_rate : IsTally sums.heart_rate 255 (filter_map heart_rate_of inside)
  pub power : IsTally sums.power 65535 (filter_map power_of inside)

-- the list is allowed, and the totals are those of the list
pub record AreTotals (totals : TotalsState) (list : List Recorded) : Type 0 where
  pub allowed : Allowed list
  pub begun : start_of list ≡ Some totals.start
  pub from_start : totals.clock.start ≡ totals.start.time
  pub clock : IsClock totals.clock list
  pub stopped : totals.stopped ≡ has_stopped list
  pub laps : totals.laps ≡ count_by is_lap list
  pub distance : totals.distance ≡ known_distance list
  pub whole : AreSums totals.whole [] list
  pub lap : AreSums totals.lap (before_open list) (open_stretch list)
