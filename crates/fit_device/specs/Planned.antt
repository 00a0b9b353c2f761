-- What the plan in the memory of C does once it was carried out, and that C can carry it out.
use Rattle.std.specs.Prelude.{◌≡◌, ◌≤◌, ℕ, List, length, take, All}
use Rattle.std.specs.List.{fold}
use Rattle.fit_disk.specs.Story.{Story}
use Rattle.fit_device.specs.declared.plan.DevicePlan.{DevicePlan}
use Rattle.fit_plan.specs.CutOff.{IsCutOff}
use Rattle.fit_plan.specs.Plan.{most_planned_calls, most_planned_bytes}
use Rattle.fit_plan.specs.Planned.{done_by, AllInside}
use Rattle.fit_plan.specs.Within.{IsCallWithin}
use Rattle.fit_plan.specs.declared.calls.Call.{Call}

-- the first so many calls, in order
abbrev pub calls_in : DevicePlan → List Call
calls_in plan = take plan.count plan.calls

-- each write has its bytes among the first so many of the plan
abbrev pub bytes_in : DevicePlan → List ℕ
bytes_in plan = take plan.used plan.bytes

abbrev pub carried_out : DevicePlan → Story → Story
carried_out plan story = fold (done_by (bytes_in plan)) story (calls_in plan)

-- The numbers of the plan are within its arrays. Each call is a write, a cut or a sync of one of the two files, and begins inside its file.
pub record IsWellFormed (plan : DevicePlan) (story : Story) : Type 0 where
  pub few : plan.count ≤ most_planned_calls
  pub short : plan.used ≤ most_planned_bytes
  pub calls : All (IsCallWithin (length (bytes_in plan))) (calls_in plan)
  pub inside : AllInside (bytes_in plan) story (calls_in plan)

-- C can carry out the plan, and it leads from the files before to those after
pub record Leads (plan : DevicePlan) (old new : Story) : Type 0 where
  pub well_formed : IsWellFormed plan old
  pub ends : new ≡ carried_out plan old

-- it was carried out up to one of its calls, and that call at most in part
abbrev pub IsCutOffIn : DevicePlan → Story → Story → Type 0
IsCutOffIn plan old new = IsCutOff (bytes_in plan) (calls_in plan) old new
