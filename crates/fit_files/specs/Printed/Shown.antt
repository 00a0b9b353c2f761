-- The result of showing bytes.
use Rattle.std.specs.Prelude.{◌≡◌, ℕ, Bool, List, Option, Result, Ok, Err}
use Rattle.std.specs.Io.KnownBytes.{Appends}
use Rattle.fit_grammar.specs.Calls.Output.{AppendsBeginning}
use Rattle.fit_grammar.specs.Format.File.{FileValue, FileOf}
use Rattle.fit_grammar.specs.Format.Refusal.{IsFaultOf}
use Rattle.fit_files.specs.declared.fault.ReportFault.{ReportFault}
use Rattle.fit_files.specs.declared.fault.ReportFault.TheVariants as faults
use Rattle.fit_text.specs.Text.{text_of}

-- the one fault of an output
abbrev pub IsOutputFault : ReportFault → Type 0
IsOutputFault faults.Output = Unit {0}
IsOutputFault _ = ⊥

-- the bytes are a file, and all of this text of it was written, or a prefix of it and the output failed; or they are not a file, and
-- nothing was written
abbrev pub ShowsBy : {T : Type 0} → (FileValue → List ℕ) → Option (List ℕ) → Option (List ℕ)
    → List ℕ → Result T ReportFault → Type 0
ShowsBy text old new bytes (Ok done) = (v : FileValue) × FileOf bytes v × Appends old new (text v)
ShowsBy text old new bytes (Err (faults.File fault)) = IsFaultOf bytes fault × (new ≡ old)
ShowsBy text old new bytes (Err fault) =
    ((v : FileValue) × FileOf bytes v × AppendsBeginning old new (text v)) × IsOutputFault fault

-- the same for the shown text
abbrev pub ShowsBytes : {T : Type 0} → Bool → Option (List ℕ) → Option (List ℕ) → List ℕ
    → Result T ReportFault → Type 0
ShowsBytes utc old new bytes result = ShowsBy (text_of utc) old new bytes result
