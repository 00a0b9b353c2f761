-- The result of checking bytes.
use Rattle.std.specs.Prelude.{◌≡◌, ℕ, List, ◌++◌, Option, Result, Ok, Err, codes}
use Rattle.fit_grammar.specs.Calls.Output.{AppendsBeginning}
use Rattle.fit_grammar.specs.Format.Message.{messages_of}
use Rattle.fit_grammar.specs.Format.File.{FileValue, FileOf}
use Rattle.fit_grammar.specs.Format.Refusal.{IsFaultOf}
use Rattle.fit_activity.specs.declared.activity.Summary.{Summary}
use Rattle.fit_activity.specs.Files.Activity.{activity_in}
use Rattle.fit_files.specs.declared.fault.ReportFault.{ReportFault}
use Rattle.fit_files.specs.declared.fault.ReportFault.TheVariants as faults
use Rattle.fit_files.specs.Printed.Summary.{summary_text}
use Rattle.std.specs.Io.KnownBytes.{Appends}

-- The bytes are a file and an activity, and the line of its summary was printed, or a prefix of it and the output failed; or they are
-- not, and nothing was written.
abbrev pub ChecksBytes : {T : Type 0} → Option (List ℕ) → Option (List ℕ) → List ℕ
    → Result T ReportFault → Type 0
ChecksBytes old new bytes (Ok done) =
    (v : FileValue) × FileOf bytes v × (summary : Summary)
    × (activity_in (messages_of v.items) ≡ Ok summary)
    × Appends old new (summary_text summary ++ codes "\n")
ChecksBytes old new bytes (Err (faults.File fault)) = IsFaultOf bytes fault × (new ≡ old)
ChecksBytes old new bytes (Err (faults.Activity fault)) =
    (v : FileValue) × FileOf bytes v × (activity_in (messages_of v.items) ≡ Err fault) × (new ≡ old)
ChecksBytes old new bytes (Err faults.Output) =
    (v : FileValue) × FileOf bytes v × (summary : Summary)
    × (activity_in (messages_of v.items) ≡ Ok summary)
    × AppendsBeginning old new (summary_text summary ++ codes "\n")
ChecksBytes old new bytes (Err fault) = ⊥

-- the summary of a file that is an activity, or why it is none
abbrev pub SumsUpFile : FileValue → Result Summary ReportFault → Type 0
SumsUpFile v (Ok summary) = activity_in (messages_of v.items) ≡ Ok summary
SumsUpFile v (Err (faults.Activity fault)) = activity_in (messages_of v.items) ≡ Err fault
SumsUpFile v (Err fault) = ⊥

-- the same for bytes
abbrev pub SumsUp : List ℕ → Result Summary ReportFault → Type 0
SumsUp bytes (Err (faults.File fault)) = IsFaultOf bytes fault
SumsUp bytes result = (v : FileValue) × FileOf bytes v × SumsUpFile v result
