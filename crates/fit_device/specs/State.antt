-- Where the ride of a recorder in a handle stands.
use Rattle.std.specs.Prelude.{◌≡◌, ℕ, List, if◌then◌else◌, unwrap_or, count_by}
use Rattle.fit_activity.specs.Rides.Recording.{Recorded, is_lap}
use Rattle.fit_activity.specs.Rides.Refusal.{has_stopped}
use Rattle.fit_activity.specs.Rides.Stretch.{end_time, known_distance}
use Rattle.fit_activity.specs.Rides.Timer.{runs_now}
use Rattle.fit_device.specs.Answer.{no_recorder}
use Rattle.fit_device.specs.Handle.{IsRecorder, HandleWasHanded}
use Rattle.fit_device.specs.declared.handle.Handle.{Handle}
use Rattle.fit_device.specs.declared.state.DeviceState.{DeviceState}

-- the last time and distance of a list, its laps, and whether the timer runs and the ride has ended
pub record IsStateOf (list : List Recorded) (state : DeviceState) : Type 0 where
  pub time : state.time ≡ end_time list
  pub distance : state.distance ≡ unwrap_or (known_distance list) 0
  pub laps : state.laps ≡ count_by is_lap list
  pub running : state.running ≡ (if runs_now list then 1 else 0)
  pub stopped : state.stopped ≡ (if has_stopped list then 1 else 0)

-- The state of a ride is reported. A handle that is none of a recorder leaves the state as it is.
pub record ReportsState (h : Handle) (old new : DeviceState) (code : ℕ) : Type 0 where
  pub none : (IsRecorder h → ⊥) → (code ≡ no_recorder) × (new ≡ old)
  pub known : IsRecorder h → code ≡ 0
  pub stands : (list : List Recorded) → HandleWasHanded h list → IsStateOf list new
