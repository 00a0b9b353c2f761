-- The program's faults for the faults of the libraries below it, and which faults each subcommand may report.
use Rattle.std.specs.Prelude.{◌≡◌, ◌<◌, ◌⊎◌, ℕ, Bool, true, false, List, Option, Some, None, Result, Ok, Err, codes, vec_len}
use Rattle.std.specs.Borrow.{Bor}
use Rattle.fit_activity.specs.declared.activity.ActivityFault.TheVariants as activities
use Rattle.fit_disk.specs.declared.files.OpenFault.{OpenFault}
use Rattle.fit_disk.specs.declared.files.OpenFault.TheVariants.{Open, Memory}
use Rattle.fit_files.specs.declared.fault.ReportFault.{ReportFault}
use Rattle.fit_files.specs.declared.fault.ReportFault.TheVariants as reports
use Rattle.fit_finishing.specs.declared.finishing.FinishFault.{FinishFault}
use Rattle.fit_finishing.specs.declared.finishing.FinishFault.TheVariants as finishes
use Rattle.fit_recorder.specs.Calls.Recovery.{IsRecoveryFault}
use Rattle.fit_recorder.specs.declared.fault.RecFault.TheVariants.{NothingRecorded, Damaged}
use Rattle.fit_recordings.specs.declared.repairing.RepairFault.{RepairFault}
use Rattle.fit_recordings.specs.declared.repairing.RepairFault.TheVariants as repairs
use Rattle.fit_words.specs.declared.request.SalvageForm.{SalvageForm}
use Rattle.fit_commands.specs.Reading.{IsFileFault, fault_of_read}
use Rattle.fit_commands.specs.declared.fault.Fault.{Fault}
use Rattle.fit_commands.specs.declared.fault.Fault.TheVariants as faults
use Rattle.fit_files.specs.declared.reading.FrontRead.{FrontRead}

-- for a folder of this name that is not opened
abbrev pub fault_of_open : Bor (List ℕ) → OpenFault → Fault
fault_of_open name Open = faults.Open name
fault_of_open name Memory = faults.NoMemory

-- for an input of this name that was not read, checked, printed or made plain; the name of the output is `-`
abbrev pub IsReportFault : Bor (List ℕ) → ReportFault → Fault → Type 0
IsReportFault name (reports.File fault) reported = reported ≡ faults.File fault
IsReportFault name (reports.Activity fault) reported = reported ≡ faults.Activity fault
IsReportFault name reports.Output (faults.Write out) = out.now ≡ codes "-"
IsReportFault name reports.Output _ = ⊥
IsReportFault name (reports.Input why) reported = reported ≡ fault_of_read name why
IsReportFault name (reports.Plain fault) reported = reported ≡ faults.Plain fault

-- the program's result for that of an input of this name
abbrev pub AnswersReport : {T : Type 0} → Bor (List ℕ) → Result T ReportFault → Result T Fault → Type 0
AnswersReport name (Ok done) (Ok reported) = reported ≡ done
AnswersReport name (Err why) (Err reported) = IsReportFault name why reported
AnswersReport name _ _ = ⊥

-- for an activity that is not finished
abbrev pub fault_of_finish : FinishFault → Fault
fault_of_finish finishes.NotActivity = faults.Activity activities.NotActivity
fault_of_finish finishes.NoSample = faults.NoSample
fault_of_finish finishes.TooLong = faults.TooLarge

-- for a recording that was not repaired, or whose summary was not printed
abbrev pub IsRepairReported : RepairFault → Fault → Type 0
IsRepairReported (repairs.Recorder fault) reported = reported ≡ faults.Recorder fault
IsRepairReported repairs.Output (faults.Write name) = name.now ≡ codes "-"
IsRepairReported repairs.Output _ = ⊥

-- the output failed; its name is `-`
abbrev pub IsOutputReported : Fault → Type 0
IsOutputReported (faults.Write name) = name.now ≡ codes "-"
IsOutputReported _ = ⊥

-- the program's result for the result of a repair
abbrev pub AnswersRepair : {T : Type 0} → Result T RepairFault → Result T Fault → Type 0
AnswersRepair (Ok done) (Ok reported) = reported ≡ done
AnswersRepair (Err why) (Err reported) = IsRepairReported why reported
AnswersRepair _ _ = ⊥

-- ---- the faults that a part of a subcommand, or a whole one, may report

-- of opening the files of a folder of this name
abbrev pub IsOpenReported : Bor (List ℕ) → Fault → Type 0
IsOpenReported folder (faults.Open name) = name ≡ folder
IsOpenReported folder faults.NoMemory = Unit {0}
IsOpenReported folder (faults.Recorder NothingRecorded) = Unit {0}
IsOpenReported folder _ = ⊥

-- of repairing a folder of this name
abbrev pub IsFolderFault : Bor (List ℕ) → Fault → Type 0
IsFolderFault folder (faults.Open name) = name ≡ folder
IsFolderFault folder faults.NoMemory = Unit {0}
IsFolderFault folder (faults.Recorder fault) = IsRecoveryFault fault
IsFolderFault folder (faults.Write name) = name.now ≡ codes "-"
IsFolderFault folder _ = ⊥

-- of reading the two files of a recording
abbrev pub IsReadReported : Fault → Type 0
IsReadReported (faults.Read name) =
    (name.now ≡ codes "activity.fit") ⊎ (name.now ≡ codes "activity.frj")
IsReadReported faults.TooLarge = Unit {0}
IsReadReported faults.NoMemory = Unit {0}
IsReadReported _ = ⊥

-- of reading the files of a folder of this name
abbrev pub IsRecordingReported : Bor (List ℕ) → Fault → Type 0
IsRecordingReported folder (faults.Open name) = name ≡ folder
IsRecordingReported folder (faults.Recorder NothingRecorded) = Unit {0}
IsRecordingReported folder reported = IsReadReported reported

-- the same; if nothing is recorded, the fault may say what the folder lacks
abbrev pub IsLackReported : Bor (List ℕ) → Fault → Type 0
IsLackReported folder (faults.NothingSaved lack) = Unit {0}
IsLackReported folder reported = IsRecordingReported folder reported

-- of recovering the ride of a recording in memory, of whose data file this was read
abbrev pub IsRideReported : FrontRead → Fault → Type 0
IsRideReported read (faults.BodyNotRead at) = (read.is_whole ≡ false) × (at ≡ vec_len read.bytes)
IsRideReported read (faults.Recorder Damaged) = Unit {0}
IsRideReported read (faults.NothingSaved lack) = Unit {0}
IsRideReported read faults.Changed = Unit {0}
IsRideReported read faults.TooLarge = Unit {0}
IsRideReported read faults.NoMemory = Unit {0}
IsRideReported read _ = ⊥

-- of writing a file of this name
abbrev pub IsNotWritten : Bor (List ℕ) → Fault → Type 0
IsNotWritten out (faults.Write name) = name ≡ out
IsNotWritten out faults.NoMemory = Unit {0}
IsNotWritten out _ = ⊥

-- of making the file of what is kept, or its plain form
abbrev pub IsNoFormReported : Bool → Fault → Type 0
IsNoFormReported plain (faults.File fault) = Unit {0}
IsNoFormReported plain (faults.Plain fault) = plain ≡ true
IsNoFormReported plain faults.NoMemory = Unit {0}
IsNoFormReported plain _ = ⊥

-- of finishing a file: it is no activity, has no sample, or would be too long
abbrev pub IsNotFinishedReported : Fault → Type 0
IsNotFinishedReported (faults.Activity fault) = Unit {0}
IsNotFinishedReported faults.NoSample = Unit {0}
IsNotFinishedReported faults.TooLarge = Unit {0}
IsNotFinishedReported _ = ⊥

-- of putting what is kept into this form: there is no plain form, it is not finished, or memory was refused
abbrev pub IsNotMade : SalvageForm → Fault → Type 0
IsNotMade form (faults.File fault) = (form.plain ≡ true) ⊎ (form.finish ≡ true)
IsNotMade form (faults.Plain fault) = form.plain ≡ true
IsNotMade form (faults.Activity fault) = form.finish ≡ true
IsNotMade form faults.NoSample = form.finish ≡ true
IsNotMade form faults.TooLarge = form.finish ≡ true
IsNotMade form faults.NoMemory = (form.plain ≡ true) ⊎ (form.finish ≡ true)
IsNotMade form _ = ⊥

-- of keeping nothing of a file of this name, which begins with no header; going on after its faults takes memory
abbrev pub IsNothingKept : Bool → Bor (List ℕ) → Fault → Type 0
IsNothingKept skip file (faults.Read name) = name ≡ file
IsNothingKept skip file (faults.File fault) = Unit {0}
IsNothingKept skip file faults.NoMemory = skip ≡ true
IsNothingKept skip file _ = ⊥

-- of taking the definitions of a file: the file of this name was not opened or read, or is no file
abbrev pub IsNoLike : Option (Bor (List ℕ)) → Fault → Type 0
IsNoLike None reported = ⊥
IsNoLike (Some name) (faults.NotLike other fault) = other ≡ name
IsNoLike (Some name) reported = IsFileFault name reported

-- what was not read to its end is not refused as a file
abbrev pub IsOfWhole : Bool → Fault → Type 0
IsOfWhole whole (faults.File fault) = whole ≡ true
IsOfWhole whole _ = Unit {0}

-- of writing a file into a folder of this name, and printing its line
abbrev pub IsPartReported : Bor (List ℕ) → Fault → Type 0
IsPartReported folder (faults.Write name) = (name ≡ folder) ⊎ (name.now ≡ codes "-")
IsPartReported folder faults.NoMemory = Unit {0}
IsPartReported folder _ = ⊥

-- of finding the files of some bytes, with `all` or without: there are too many, or with it too much looks like one
abbrev pub IsNotFound : Bool → Fault → Type 0
IsNotFound all (faults.TooManyFiles count) = (all ≡ false) × (1000 < count)
IsNotFound all faults.TooManyHeaders = all ≡ true
IsNotFound all faults.NoMemory = Unit {0}
IsNotFound all _ = ⊥
