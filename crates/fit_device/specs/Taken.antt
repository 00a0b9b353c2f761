-- A recorder that is taken out of a handle for one call, and put back after it.
use Rattle.std.specs.Prelude.{◌≡◌}
use Rattle.fit_device.specs.declared.handle.Handle.{Handle}
use Rattle.fit_device.specs.declared.plan.DevicePlan.{DevicePlan}
use Rattle.fit_device.specs.Handle.{handle_story, IsRecorder}
use Rattle.fit_device.specs.Planned.{Leads}
use Rattle.fit_disk.specs.Counts.{no_calls}
use Rattle.fit_plan.specs.declared.plan.Plan.{Plan}
use Rattle.fit_plan.specs.Plan.{plan_story, plan_since, plan_counts, room_in, whole_room}
use Rattle.fit_recorder.specs.declared.recorder.Recorder.{Recorder}
use Rattle.fit_recorder.specs.Calls.Frozen.{state_in, has_failed_in}
use Rattle.fit_recorder.specs.Calls.Recorder.{state_of, has_failed, disk_of}

-- it has the numbers of the handle, over the files of the handle, and nothing is planned yet
pub record IsTaken (old : Handle) (recorder : Recorder Plan) : Type 0 where
  pub is_recorder : IsRecorder old
  pub state : state_of recorder ≡ state_in old.recorder
  pub failed : has_failed recorder ≡ has_failed_in old.recorder
  pub story : plan_story (disk_of recorder) ≡ handle_story old
  pub since : plan_since (disk_of recorder) ≡ handle_story old
  pub counts : plan_counts (disk_of recorder) ≡ no_calls
  pub room : room_in (disk_of recorder) ≡ whole_room

-- the handle has its numbers and its files, and C has its calls
pub record IsPut (new : Handle) (plan : DevicePlan) (recorder : Recorder Plan) : Type 0 where
  pub is_recorder : IsRecorder new
  pub state : state_in new.recorder ≡ state_of recorder
  pub failed : has_failed_in new.recorder ≡ has_failed recorder
  pub story : handle_story new ≡ plan_story (disk_of recorder)
  pub planned : Leads plan (plan_since (disk_of recorder)) (plan_story (disk_of recorder))
