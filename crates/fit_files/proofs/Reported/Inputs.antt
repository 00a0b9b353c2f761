-- The result for an input that was read to its end: for `show_input` and `check_input`, and for crates above.
use Rattle.std.proofs.Common.{◌≡◌, ℕ, List, Option, Result, Ok, Err, subst}
use Rattle.std.specs.Prelude.{IfErr}
use Rattle.fit_grammar.specs.Calls.Output.{WritesText}
use Rattle.fit_grammar.specs.Format.File.{FileValue, FileOf}
use Rattle.fit_files.specs.declared.fault.ReportFault.{ReportFault}
use Rattle.fit_files.specs.declared.fault.ReportFault.TheVariants.{File, Activity, Output, Input, Plain}
use Rattle.fit_files.specs.declared.reading.ReadFault.{ReadFault}
use Rattle.fit_files.specs.Calls.Reading.{ReadsAll, ReportsInput}
use Rattle.fit_files.specs.Printed.Shown.{ShowsBy, IsOutputFault}

-- a file was shown, or the output failed
pub shows_file : {T : Type 0} → (text : FileValue → List ℕ) (old new : Option (List ℕ)) (bytes : List ℕ) (v : FileValue) (result : Result T ReportFault) → FileOf bytes v
    → WritesText old new result (text v) → IfErr result IsOutputFault → ShowsBy text old new bytes result
shows_file text old new bytes v (Ok done) file writes fault = (v, file, writes.all)
shows_file text old new bytes v (Err Output) file writes fault = ((v, file, writes.beginning), tt)
shows_file text old new bytes v (Err (File why)) file writes fault = absurd fault
shows_file text old new bytes v (Err (Activity why)) file writes fault = absurd fault
shows_file text old new bytes v (Err (Input why)) file writes fault = absurd fault
shows_file text old new bytes v (Err (Plain why)) file writes fault = absurd fault

module _ {T : Type 0} (IsReported : List ℕ → Result T ReportFault → Type 0) (never : (bytes : List ℕ) (why : ReadFault) → IsReported bytes (Err (Input why)) → ⊥) where
  -- a result for the bytes is not a fault of the input
  pub outcome_of : (most : ℕ) (from after : Option (List ℕ)) (bytes : List ℕ) (result : Result T ReportFault) → ReadsAll most from after bytes → IsReported bytes result
      → ReportsInput most from after IsReported result
  outcome_of most from after bytes (Ok done) all outcome = (bytes, all, outcome)
  outcome_of most from after bytes (Err Output) all outcome = (bytes, all, outcome)
  outcome_of most from after bytes (Err (File why)) all outcome = (bytes, all, outcome)
  outcome_of most from after bytes (Err (Activity why)) all outcome = (bytes, all, outcome)
  outcome_of most from after bytes (Err (Plain why)) all outcome = (bytes, all, outcome)
  outcome_of most from after bytes (Err (Input why)) all outcome = absurd (never bytes why outcome)

  pub no_input : {A : Type 0} → (bytes : List ℕ) (why : ReadFault) (result : Result T ReportFault) → IsReported bytes result → result ≡ Err (Input why) → A
  no_input bytes why result outcome is = absurd (never bytes why (subst (λ answer. IsReported bytes answer) is outcome))
