-- The result of a repair, and what it prints.
use Rattle.std.specs.Prelude.{◌≡◌, ◌++◌, ℕ, List, Option, Result, Ok, Err, codes}
use Rattle.std.specs.Io.KnownBytes.{Appends}
use Rattle.fit_activity.specs.declared.activity.Summary.{Summary}
use Rattle.fit_disk.specs.State.{Contents}
use Rattle.fit_disk.specs.Story.{Story}
use Rattle.fit_grammar.specs.Calls.Output.{AppendsBeginning}
use Rattle.fit_recorder.specs.Calls.Recovery.{IsRecovered, IsRecoveryFault, RecoveryAnswers}
use Rattle.fit_recorder.specs.declared.fault.RecFault.{RecFault}
use Rattle.fit_recordings.specs.declared.repairing.RepairFault.{RepairFault}
use Rattle.fit_recordings.specs.declared.repairing.RepairFault.TheVariants as faults
use Rattle.fit_files.specs.Printed.Summary.{summary_text}

-- The recording was recovered, and the line of its summary was printed, or a prefix of it and the output failed; or it was not
-- recovered, for what reads gave of its files, and nothing was printed.
abbrev pub Repairs : {T : Type 0} → Contents → Story → Option (List ℕ) → Option (List ℕ)
    → Result T RepairFault → Type 0
Repairs contents story old new (Ok done) =
    (summary : Summary) × IsRecovered contents story summary
    × Appends old new (summary_text summary ++ codes "\n")
Repairs contents story old new (Err faults.Output) =
    (summary : Summary) × IsRecovered contents story summary
    × AppendsBeginning old new (summary_text summary ++ codes "\n")
Repairs contents story old new (Err (faults.Recorder fault)) =
    RecoveryAnswers contents story (Err fault) × (new ≡ old)

-- The line of a recovery's summary was printed, or a prefix of it and the output failed; or the recovery answered a fault, and nothing
-- was printed.
abbrev pub ReportsRecovered : {T : Type 0} → Result Summary RecFault → Option (List ℕ)
    → Option (List ℕ) → Result T RepairFault → Type 0
ReportsRecovered recovered old new (Ok done) =
    (summary : Summary) × (recovered ≡ Ok summary)
    × Appends old new (summary_text summary ++ codes "\n")
ReportsRecovered recovered old new (Err faults.Output) =
    (summary : Summary) × (recovered ≡ Ok summary)
    × AppendsBeginning old new (summary_text summary ++ codes "\n")
ReportsRecovered recovered old new (Err (faults.Recorder fault)) =
    (recovered ≡ Err fault) × (new ≡ old)

-- the number of each fault
abbrev pub repair_code : RepairFault → ℕ
repair_code (faults.Recorder fault) = 1
repair_code faults.Output = 2

-- the faults of a repair, over any disk
abbrev pub IsRepairFault : RepairFault → Type 0
IsRepairFault (faults.Recorder fault) = IsRecoveryFault fault
IsRepairFault faults.Output = Unit {0}
