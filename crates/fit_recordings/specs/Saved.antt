-- The ride that is saved from the two files of a recording.
use Rattle.std.specs.Prelude.{◌≡◌, List, ℕ, Result, Ok, Err, Some}
use Rattle.fit_activity.specs.Files.Finished.{summary_of_list}
use Rattle.fit_activity.specs.Rides.Recording.{Recorded}
use Rattle.fit_activity.specs.declared.activity.Summary.{Summary}
use Rattle.fit_disk.specs.State.{Contents}
use Rattle.fit_grammar.specs.Calls.PlainForm.{too_long_at}
use Rattle.fit_grammar.specs.Format.File.{FileValue, FileOf}
use Rattle.fit_grammar.specs.declared.plain.fault.PlainFaultKind.{PlainFaultKind}
use Rattle.fit_grammar.specs.declared.plain.fault.PlainFaultKind.TheVariants as plain
use Rattle.fit_recorder.specs.Files.Body.{StandsFor}
use Rattle.fit_recorder.specs.Files.Changed.{HasChanged}
use Rattle.fit_recorder.specs.Files.Finished.{finished}
use Rattle.fit_recorder.specs.Files.NothingRecorded.{IsNothing}
use Rattle.fit_recorder.specs.Files.Settled.{IsDamaged}
use Rattle.fit_recorder.specs.declared.fault.RecFault.TheVariants.{NothingRecorded, Damaged}
use Rattle.fit_recordings.specs.declared.saving.SaveFault.{SaveFault}
use Rattle.fit_recordings.specs.declared.saving.SaveFault.TheVariants as faults
use Rattle.fit_recordings.specs.declared.saving.SavedRide.{SavedRide}
use Rattle.fit_files.specs.Printed.PlainFile.{IsPlainForm}

-- the two files stand for a list, and this is its finished file, with the same body
pub record IsFinishedOf (contents : Contents) (list : List Recorded) (v : FileValue) : Type 0 where
  pub stood : StandsFor list contents
  pub file : FileOf (finished stood.body list) v

-- The finished file of the list that the two files stand for, and the summary of that list. If `NothingRecorded` or `Damaged` is
-- answered, the two files hold nothing recorded, or are damaged; after `Changed` the body has another checksum than the journal states.
abbrev pub FinishesRide : Contents → Result (FileValue × Summary) SaveFault → Type 0
FinishesRide contents (Ok found) =
    (list : List Recorded) × IsFinishedOf contents list found.0 × (found.1 ≡ summary_of_list list)
FinishesRide contents (Err (faults.Recorder NothingRecorded)) = IsNothing contents
FinishesRide contents (Err (faults.Recorder Damaged)) =
    IsDamaged contents × (HasChanged contents → ⊥)
FinishesRide contents (Err faults.Changed) = IsDamaged contents × HasChanged contents
FinishesRide contents (Err (faults.Recorder fault)) = ⊥
FinishesRide contents (Err faults.TooLarge) = ⊥
FinishesRide contents (Err faults.NoMemory) = Unit {0}

-- the fault of a ride whose plain form is not made: it would be too long, or memory was refused
abbrev pub fault_of_plain : PlainFaultKind → SaveFault
fault_of_plain plain.TooLong = faults.TooLarge
fault_of_plain plain.Memory = faults.NoMemory

-- What is saved is the plain form of that file, unless it would be too long.
abbrev pub SavesRide : Contents → Result SavedRide SaveFault → Type 0
SavesRide contents (Ok saved) =
    (v : FileValue) × FinishesRide contents (Ok (v, saved.summary)) × IsPlainForm v saved.file
SavesRide contents (Err faults.TooLarge) =
    (v : FileValue) × (summary : Summary) × FinishesRide contents (Ok (v, summary)) × (place : ℕ)
    × (too_long_at v ≡ Some place)
SavesRide contents (Err faults.NoMemory) = Unit {0}
SavesRide contents (Err faults.Changed) = FinishesRide contents (Err faults.Changed)
SavesRide contents (Err (faults.Recorder fault)) =
    FinishesRide contents (Err (faults.Recorder fault))
