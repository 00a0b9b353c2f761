-- A recovery over two files that are lent whole.
use Rattle.std.specs.Prelude.{◌≡◌, ◌+◌, ◌≤◌}
use Rattle.fit_disk.specs.Counts.{no_calls}
use Rattle.fit_disk.specs.State.{BothLeft, seen_in}
use Rattle.fit_disk.specs.Story.{Throughout}
use Rattle.fit_plan.specs.declared.plan.Plan.{Plan}
use Rattle.fit_plan.specs.Plan.{plan_story, plan_since, plan_counts, room_in, whole_room, plan_log, most_planned_calls, most_planned_bytes}
use Rattle.fit_recorder.specs.Calls.Counts.{settling_calls}
use Rattle.fit_recorder.specs.Calls.Windows.{CanReadOn, ReadsBodyOn}
use Rattle.fit_recorder.specs.Files.Settled.{IsSettled}
use Rattle.fit_recorder.specs.declared.recovery.windows.Recovery.{Recovery}

-- nothing is planned yet
pub record Begun (files : Plan) : Type 0 where
  pub since : plan_since files ≡ plan_story files
  pub counts : plan_counts files ≡ no_calls
  pub room : room_in files ≡ whole_room

-- both files were synced, and the recovery reads on in the body that was found
pub record SyncsAndFinds (old new : Plan) (recovery : Recovery) : Type 0 where
  pub run : Throughout (BothLeft (plan_story old).now) (plan_story old) (plan_story new)
  pub same : seen_in (plan_story new).now ≡ seen_in (plan_story old).now
  pub settled : IsSettled (seen_in (plan_story old).now) (plan_story new)
  pub memory : (plan_log new).memory ≡ (plan_log old).memory
  pub made : (plan_counts new).calls ≤ settling_calls
  pub for_calls : most_planned_calls ≤ (room_in new).calls + settling_calls
  pub for_bytes : most_planned_bytes ≤ (room_in new).bytes
  pub can : CanReadOn recovery
  pub reads : ReadsBodyOn (plan_story new) recovery
