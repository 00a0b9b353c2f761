-- What is kept of a ride that was heard.
use Rattle.std.specs.Prelude.{◌≡◌, ℕ, ◌+◌, ◌<◌, ◌^◌, List, [], ◌∷◌, length, Option, Some, None}
use Rattle.fit_activity.specs.declared.recording.start.Start.{Start}
use Rattle.fit_activity.specs.Rides.Recording.{Recorded, Started}
use Rattle.fit_activity.specs.Rides.RunningTotals.{AreTotals}
use Rattle.fit_finishing.specs.declared.ride.Ride.{Ride}
use Rattle.fit_finishing.specs.declared.hearing.Hearing.{Hearing}
use Rattle.fit_finishing.specs.declared.hearing.Hearing.TheVariants.{Before, Riding}
use Rattle.fit_finishing.specs.Heard.{Heard, nothing_heard}
use Rattle.fit_finishing.specs.Finished.{has_sample}
use Rattle.fit_finishing.specs.Private.Effort.{IsEffort}

-- the ride is what was heard, after its start
pub record IsRide (ride : Ride) (h : Heard) : Type 0 where
  pub totals : AreTotals ride.totals h.list
  pub effort : IsEffort ride.effort h.list
  pub lap : ride.lap ≡ h.lap
  pub taken : ride.taken + 1 ≡ length h.list
  pub left_out : ride.left_out ≡ h.left_out
  pub sampled : ride.sampled ≡ has_sample h.list

-- 1 if a lap waits
abbrev pub waiting : Option ℕ → ℕ
waiting None = 0
waiting (Some time) = 1

-- the counts have room for one more entry
abbrev pub HasRoom : Heard → Type 0
HasRoom h = length h.list + h.left_out + waiting h.lap < 2 ^ 32

-- how many entries were taken, left out, or wait, and one more before the start, which is then one of those taken
abbrev pub counted : Heard → ℕ
counted h = length h.list + h.left_out

abbrev pub start_due : List Recorded → ℕ
start_due [] = 1
start_due (r ∷ list) = 0

abbrev pub held : Heard → ℕ
held h = counted h + waiting h.lap + start_due h.list

-- a start, after so many entries that were left out
abbrev pub started_after : Start → ℕ → Heard
started_after s left_out = record { list = Started s ∷ []; lap = None; left_out = left_out }

-- before the start only the entries that were left out are counted
abbrev pub before_start : ℕ → Heard
before_start left_out = record nothing_heard { left_out = left_out }

abbrev pub IsHearing : Hearing → Heard → Type 0
IsHearing (Before left_out) h = h ≡ before_start left_out
IsHearing (Riding ride) h = IsRide ride h
