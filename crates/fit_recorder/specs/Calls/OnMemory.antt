-- A recorder over the memory disk, after a failure or a power cut was scheduled.
use Rattle.std.specs.Prelude.{◌≡◌, true, List}
use Rattle.fit_activity.specs.Rides.Recording.{Recorded}
use Rattle.fit_disk.specs.declared.memory.Memory.{Memory}
use Rattle.fit_disk.specs.Memory.{memory_story, memory_counts}
use Rattle.fit_recorder.specs.declared.recorder.Recorder.{Recorder}
use Rattle.fit_recorder.specs.Calls.Recorder.{StandsAt, WasHanded, GoesOn, disk_of, has_failed, journal_slots}

-- no content and no promise changed
pub record StandsAsBefore (old new : Recorder Memory) : Type 0 where
  pub goes_on : GoesOn true memory_story old → GoesOn true memory_story new
  pub stands : (list committed : List Recorded) → StandsAt true memory_story old list committed
      → StandsAt true memory_story new list committed
  pub handed : (list : List Recorded) → WasHanded old list → WasHanded new list
  pub slots : journal_slots new ≡ journal_slots old
  pub failed : has_failed new ≡ has_failed old
  pub story : memory_story (disk_of new) ≡ memory_story (disk_of old)
  pub counts : memory_counts (disk_of new) ≡ memory_counts (disk_of old)
