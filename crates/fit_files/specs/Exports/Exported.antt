-- The result of printing bytes in another form than their text.
use Rattle.std.specs.Prelude.{ℕ, true, false, List, Option, Result}
use Rattle.fit_grammar.specs.Format.File.{FileValue}
use Rattle.fit_grammar.specs.Format.Message.{messages_of}
use Rattle.fit_text.specs.Json.{json_of}
use Rattle.fit_table.specs.Json.{profile_json_of}
use Rattle.fit_table.specs.Gpx.{gpx_of}
use Rattle.fit_files.specs.declared.fault.ReportFault.{ReportFault}
use Rattle.fit_files.specs.Printed.Shown.{ShowsBy}
use Rattle.fit_files.specs.declared.export.ExportForm.{ExportForm}
use Rattle.fit_files.specs.declared.export.ExportForm.TheVariants.{Json, Gpx}

-- the text of a file in a form
abbrev pub exported : ExportForm → FileValue → List ℕ
exported (Json false utc) v = json_of utc v
exported (Json true utc) v = profile_json_of utc v
exported Gpx v = gpx_of (messages_of v.items)

-- the bytes are a file, and its text in this form was written, or the same as for the shown text
abbrev pub Exports : {T : Type 0} → ExportForm → Option (List ℕ) → Option (List ℕ) → List ℕ
    → Result T ReportFault → Type 0
Exports form old new bytes result = ShowsBy (exported form) old new bytes result
