-- The result of writing a table: for `table`.
use Rattle.std.proofs.Common.{◌≡◌, ℕ, List, Option, Result, Ok, Err, refl}
use Rattle.std.specs.Prelude.{IfErr}
use Rattle.fit_grammar.specs.Format.File.{FileValue, FileOf}
use Rattle.fit_table.specs.declared.layout.Layout.{Layout}
use Rattle.fit_table.specs.Tokens.{WritesTokens}
use Rattle.fit_files.specs.declared.fault.ReportFault.{ReportFault}
use Rattle.fit_files.specs.declared.fault.ReportFault.TheVariants.{File, Activity, Output, Input, Plain}
use Rattle.fit_files.specs.Calls.Reading.{ReportsInput, DecodesTo}
use Rattle.fit_files.specs.Printed.Shown.{IsOutputFault}
use Rattle.fit_files.specs.Exports.Tabled.{tabled, FindsHeld, ShowsHeld, ShowsTable}
use Rattle.fit_files.specs.Exports.Held.{AreHeld, numbers_held}
use Rattle.fit_files.specs.declared.export.held.Held.{Held}

-- a table was written, or the output failed
pub shows_table : {T : Type 0} → (layout : Layout) (front : Option (List ℕ)) (old new : Option (List ℕ)) (bytes : List ℕ) (v : FileValue) (result : Result T ReportFault) →
    FileOf bytes v → WritesTokens old new result (tabled layout front v) → IfErr result IsOutputFault → ShowsTable layout front old new bytes result
shows_table layout front old new bytes v (Ok done) file writes fault = (v, file, writes)
shows_table layout front old new bytes v (Err Output) file writes fault = ((v, file, writes), tt)
shows_table layout front old new bytes v (Err (File why)) file writes fault = absurd fault
shows_table layout front old new bytes v (Err (Activity why)) file writes fault = absurd fault
shows_table layout front old new bytes v (Err (Input why)) file writes fault = absurd fault
shows_table layout front old new bytes v (Err (Plain why)) file writes fault = absurd fault

-- the fields were found in the file
pub finds_held : {T : Type 0} → (message : ℕ) (held : Held) (fields bytes : List ℕ) (v : FileValue) (result : Result T ReportFault) →
    FileOf bytes v → fields ≡ held.fields.items → AreHeld (numbers_held message v.items) held → IfErr result IsOutputFault → FindsHeld message held fields bytes result
finds_held message held fields bytes v (Ok done) file are found fault = (v, file, are, found)
finds_held message held fields bytes v (Err Output) file are found fault = (v, file, are, found)
finds_held message held fields bytes v (Err (File why)) file are found fault = absurd fault
finds_held message held fields bytes v (Err (Activity why)) file are found fault = absurd fault
finds_held message held fields bytes v (Err (Input why)) file are found fault = absurd fault
finds_held message held fields bytes v (Err (Plain why)) file are found fault = absurd fault

-- an input that is not a file has no table, whatever the fields are
pub held_refused : (T : Type 0) (layout : Layout) (held : Held) (text : Option (List ℕ)) (most : ℕ) (from after : Option (List ℕ)) (fault : ReportFault) → ReportsInput {T = FileValue} most from after DecodesTo (Err fault)
    → ReportsInput {T = T} most from after (ShowsHeld layout held text text) (Err fault)
held_refused T layout held text most from after (File why) refused = (refused.0, refused.1, (layout.fields, (refused.2, refl), tt))
held_refused T layout held text most from after (Activity why) refused = absurd refused.2
held_refused T layout held text most from after Output refused = absurd refused.2
held_refused T layout held text most from after (Input why) refused = refused
held_refused T layout held text most from after (Plain why) refused = absurd refused.2
