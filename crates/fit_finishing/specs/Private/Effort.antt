-- What is kept of the cadences and the climb of a list.
use Rattle.std.specs.Prelude.{◌≡◌, ℕ, ◌+◌, ◌*◌, ◌/◌, ◌^◌, ◌≤◌, List, length, sum, Option, Some, None, nat_lt, ◌==◌, if◌then◌else◌}
use Rattle.fit_activity.specs.Rides.Recording.{Recorded}
use Rattle.fit_activity.specs.Rides.Stretch.{greater_of, greatest}
use Rattle.fit_finishing.specs.declared.climb.Climb.{Climb}
use Rattle.fit_finishing.specs.declared.effort.Effort.{Effort}
use Rattle.fit_finishing.specs.declared.effort.Cadence.{Cadence}
use Rattle.fit_finishing.specs.Effort.{cadences, turning, climb_of, climbed_after}

-- with one more cadence, and with one more altitude, if there is one
abbrev pub cadence_with : Cadence → Option ℕ → Cadence
cadence_with cadence None = cadence
cadence_with cadence (Some n) =
    record {
      total = cadence.total + n;
      turning = cadence.turning + (if nat_lt 0 n then 1 else 0);
      greatest = greater_of cadence.greatest (Some n);
    }

abbrev pub climb_with : Option Climb → Option ℕ → Option Climb
climb_with climb None = climb
climb_with climb (Some altitude) = climbed_after climb altitude

-- the floor of their sum over their number, if there are any
abbrev pub average_of : Cadence → Option ℕ
average_of cadence =
    if cadence.turning == 0 then None else Some (cadence.total / cadence.turning)

-- what the rises that ended add up to
abbrev pub risen_in : Option Climb → ℕ
risen_in None = 0
risen_in (Some climb) = climb.risen

-- the cadences are these
pub record AreCadences (cadence : Cadence) (values : List ℕ) : Type 0 where
  pub total : cadence.total ≡ sum (turning values)
  pub turning' : cadence.turning ≡ length (turning values)
  pub most : cadence.greatest ≡ greatest values
  pub small : cadence.total ≤ 255 * cadence.turning
  pub few : cadence.turning ≤ length values

-- what is kept is that of the list
pub record IsEffort (effort : Effort) (list : List Recorded) : Type 0 where
  pub cadence : AreCadences effort.cadence (cadences list)
  pub climb : effort.climb ≡ climb_of list
  pub low : risen_in effort.climb + 2 ^ 32 ≤ 2 ^ 32 * length list
