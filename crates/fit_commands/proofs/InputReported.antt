-- What is printed of a file, as it is reported.
use Rattle.std.proofs.Common.{◌≡◌, inl, inr, ℕ, List, Option, Result, Ok, Err, Bor, refl, ap, subst, sym}
use Rattle.fit_files.specs.declared.fault.ReportFault.{ReportFault}
use Rattle.fit_files.specs.declared.fault.ReportFault.TheVariants.{File, Activity, Output, Input, Plain}
use Rattle.fit_files.specs.declared.reading.ReadFault.{ReadFault}
use Rattle.fit_files.specs.declared.reading.ReadFault.TheVariants as reads
use Rattle.fit_files.specs.Calls.Reading.{ReadsAll, ReportsInput}
use Rattle.fit_commands.specs.Faults.{AnswersReport, IsReportFault}
use Rattle.fit_commands.specs.Reading.{IsFileFault, IsRead, fault_of_read}
use Rattle.fit_commands.specs.Reported.{ReportsRun}
use Rattle.fit_commands.specs.declared.fault.Fault.{Fault}

file_fault : (name : Bor (List ℕ)) (why : ReadFault) → IsFileFault name (fault_of_read name why)
file_fault name reads.Failed = refl
file_fault name reads.TooLarge = tt
file_fault name reads.NoMemory = tt

-- what was read of a file that holds this
pub input_read : (held from after : Option (List ℕ)) (bytes : List ℕ) → from ≡ held → ReadsAll 268435456 from after bytes → IsRead held bytes
input_read held from after bytes same read = (after, subst (λ known. ReadsAll 268435456 known after bytes) same read)

-- the bytes are no file, the output failed, or the input was not read
pub input_reported : {T : Type 0} (held : Option (List ℕ)) (name : Bor (List ℕ)) (IsResult : List ℕ → Result T ReportFault → Type 0) (old new from after : Option (List ℕ)) (why : ReportFault) (reported : Fault)
    → from ≡ held → ReportsInput {T = T} 268435456 from after IsResult (Err why)
    → ((refused : ReadFault) → why ≡ Input refused → new ≡ old) → IsReportFault name why reported
    → ReportsRun {T = T} held name old new (IsReportFault name) IsResult (Err reported)
input_reported held name IsResult old new from after (File why) reported same (bytes, read, is) quiet by = inr (File why, by, bytes, input_read held from after bytes same read, is)
input_reported held name IsResult old new from after (Activity why) reported same (bytes, read, is) quiet by = inr (Activity why, by, bytes, input_read held from after bytes same read, is)
input_reported held name IsResult old new from after Output reported same (bytes, read, is) quiet by = inr (Output, by, bytes, input_read held from after bytes same read, is)
input_reported held name IsResult old new from after (Plain why) reported same (bytes, read, is) quiet by = inr (Plain why, by, bytes, input_read held from after bytes same read, is)
input_reported held name IsResult old new from after (Input why) reported same shown quiet by =
    inl (subst (IsFileFault name) (sym by) (file_fault name why), quiet why refl)

-- the same, or what was made of the bytes
pub input_answered : {T : Type 0} (held : Option (List ℕ)) (name : Bor (List ℕ)) (IsResult : List ℕ → Result T ReportFault → Type 0) (old new from after : Option (List ℕ)) (done : Result T ReportFault) (reported : Result T Fault)
    → from ≡ held → ReportsInput {T = T} 268435456 from after IsResult done
    → ((refused : ReadFault) → done ≡ Err (Input refused) → new ≡ old) → AnswersReport name done reported
    → ReportsRun {T = T} held name old new (IsReportFault name) IsResult reported
input_answered {T} held name IsResult old new from after (Ok made) (Ok told) same (bytes, read, is) quiet by =
    (bytes, input_read held from after bytes same read, subst (λ (v : T). IsResult bytes (Ok v)) (sym by) is)
input_answered held name IsResult old new from after (Err why) (Err fault) same shown quiet by =
    input_reported held name IsResult old new from after why fault same shown (λ refused is. quiet refused (ap Err is)) by
input_answered held name IsResult old new from after (Ok made) (Err fault) same shown quiet by = absurd by
input_answered held name IsResult old new from after (Err why) (Ok told) same shown quiet by = absurd by
