use Rattle.std.proofs.Common.{ℕ, List, Option, Result, Ok, Err, IfOk, inr}
use Rattle.std.specs.Borrow.{Bor}
use Rattle.fit_disk.specs.State.{Contents, seen_in}
use Rattle.fit_disk.specs.Story.{Story}
use Rattle.fit_recordings.specs.Rereading.{AreSumsOf}
use Rattle.fit_recordings.specs.Repaired.{Repairs}
use Rattle.fit_recordings.specs.declared.repairing.FileSums.{FileSums}
use Rattle.fit_recordings.specs.declared.repairing.RepairFault.{RepairFault}
use Rattle.fit_commands.specs.Faults.{AnswersRepair}
use Rattle.fit_commands.specs.Reported.{VerifiesFolder}
use Rattle.fit_commands.specs.declared.fault.Fault.{Fault}
use Rattle.fit_commands.proofs.repair.verify_read.Goals as goal

verified : (name : Bor (List ℕ)) (WereRead : Contents → Type 0) (contents : Contents) (story : Story) (old new : Option (List ℕ))
    (repaired : Result FileSums RepairFault) (reported : Result FileSums Fault) → WereRead contents
    → Repairs contents story old new repaired → IfOk repaired (AreSumsOf (seen_in story.now)) → AnswersRepair repaired reported
    → VerifiesFolder name WereRead old new reported
verified name WereRead contents story old new (Ok sums) (Ok stated) read is sums_are same = (contents, read, story, is, rw same sums_are)
verified name WereRead contents story old new (Err why) (Err fault) read is none reports = inr (why, reports, contents, read, story, is)
verified name WereRead contents story old new (Ok sums) (Err fault) read is sums_are reports = absurd reports
verified name WereRead contents story old new (Err why) (Ok stated) read is none reports = absurd reports

pub returns : goal.returns
returns g c =
    let is = rw (c.as_slice.ensures.value, c.as_slice-2.ensures.value) at c.in_ok-repaired.ensures.repaired in
    verified c.args.name _ _ _ _ _ c.in_ok-repaired.repaired _ (c.in_ok-in_data.ensures.read, c.in_ok-in_journal.ensures.read)
    is c.in_ok-repaired.ensures.read c.stated_of.ensures
