-- The result of printing bytes as a table.
use Rattle.std.specs.Prelude.{◌≡◌, ℕ, List, Option, Some, None, Result, Ok, Err}
use Rattle.std.specs.Borrow.{Bor}
use Rattle.fit_grammar.specs.Format.File.{FileValue, FileOf}
use Rattle.fit_grammar.specs.Format.Message.{messages_of}
use Rattle.fit_grammar.specs.Format.Refusal.{IsFaultOf}
use Rattle.fit_table.specs.declared.layout.Layout.{Layout}
use Rattle.fit_table.specs.Table.{table_of, lines_of}
use Rattle.fit_table.specs.Tokens.{Token, WritesTokens}
use Rattle.fit_files.specs.declared.fault.ReportFault.{ReportFault}
use Rattle.fit_files.specs.declared.fault.ReportFault.TheVariants as faults
use Rattle.fit_files.specs.Printed.Shown.{IsOutputFault}
use Rattle.fit_files.specs.declared.export.held.Held.{Held}
use Rattle.fit_files.specs.Exports.Held.{AreHeld, numbers_held}

-- the table of a file, or, with a text that begins each line, its lines alone
abbrev pub tabled : Layout → Option (List ℕ) → FileValue → List Token
tabled layout None v = table_of layout (messages_of v.items)
tabled layout (Some front) v = lines_of layout front (messages_of v.items)

-- the bytes are a file, and its table was written, or a prefix of it and the output failed; or they are not a file, and nothing was
-- written
abbrev pub ShowsTable : {T : Type 0} → Layout → Option (List ℕ) → Option (List ℕ)
    → Option (List ℕ) → List ℕ → Result T ReportFault → Type 0
ShowsTable {T} layout front old new bytes (Ok done) =
    (v : FileValue) × FileOf bytes v
    × WritesTokens {T = T} {E = ReportFault} old new (Ok done) (tabled layout front v)
ShowsTable {T} layout front old new bytes (Err (faults.File fault)) =
    IsFaultOf bytes fault × (new ≡ old)
ShowsTable {T} layout front old new bytes (Err fault) =
    ((v : FileValue) × FileOf bytes v
    × WritesTokens {T = T} {E = ReportFault} old new (Err fault) (tabled layout front v))
    × IsOutputFault fault

-- unless the bytes are not a file, these fields are those that the messages have in it, as far as a table has columns
abbrev pub FindsHeld : {T : Type 0} → ℕ → Held → List ℕ → List ℕ → Result T ReportFault → Type 0
FindsHeld message held fields bytes (Err (faults.File fault)) = Unit {0}
FindsHeld message held fields bytes result =
    (v : FileValue) × FileOf bytes v × (fields ≡ held.fields.items)
    × AreHeld (numbers_held message v.items) held

-- the same with these fields in place of the layout's
abbrev pub ShowsHeld : {T : Type 0} → Layout → Held → Option (List ℕ) → Option (List ℕ) → List ℕ
    → Result T ReportFault → Type 0
ShowsHeld layout held old new bytes result =
    (fields : Bor (List ℕ))
    × ShowsTable (record layout { fields = fields }) None old new bytes result
    × FindsHeld layout.message held fields.now bytes result
