-- The name of what is wrong with a file that is no activity.
use Rattle.std.specs.Prelude.{ℕ, List, codes}
use Rattle.fit_activity.specs.declared.activity.ActivityFault.{ActivityFault}
use Rattle.fit_activity.specs.declared.activity.ActivityFault.TheVariants.{NoFileId, NotActivity, NoLap, NoSession, NoActivity}

abbrev pub activity_fault_name : ActivityFault → List ℕ
activity_fault_name NoFileId = codes "NoFileId"
activity_fault_name NotActivity = codes "NotActivity"
activity_fault_name NoLap = codes "NoLap"
activity_fault_name NoSession = codes "NoSession"
activity_fault_name NoActivity = codes "NoActivity"
