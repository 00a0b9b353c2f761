-- The name of a refusal.
use Rattle.std.specs.Prelude.{ℕ, List, ◌++◌, codes, decimal}
use Rattle.fit_activity.specs.declared.recording.refusal.Refusal.{Refusal}
use Rattle.fit_activity.specs.declared.recording.refusal.Refusal.TheVariants.{Stopped, Time, TooLong, TimerStopped, TimerRunning, TooManyLaps, Value, Distance}

abbrev pub refusal_name : Refusal → List ℕ
refusal_name Stopped = codes "Stopped"
refusal_name Time = codes "Time"
refusal_name TooLong = codes "TooLong"
refusal_name TimerStopped = codes "TimerStopped"
refusal_name TimerRunning = codes "TimerRunning"
refusal_name TooManyLaps = codes "TooManyLaps"
refusal_name (Value field) = codes "Value(" ++ decimal field ++ codes ")"
refusal_name Distance = codes "Distance"
