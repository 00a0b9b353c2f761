-- How a file keeps its items: in the bytes that they are written as.
use Rattle.std.specs.Prelude.{◌≡◌, ℕ}
use Rattle.fit_grammar.specs.declared.file.File.TheInside.{Inside}
use Rattle.fit_grammar.specs.Format.Records.{in_force}
use Rattle.fit_grammar.specs.Format.Encoding.{encoded_items}
use Rattle.fit_grammar.specs.Calls.Table.{definition_in}
use Rattle.fit_grammar.specs.Format.File.{FileValue}
use Rattle.fit_grammar.specs.Calls.Possible.{CanBeFile}
use Rattle.fit_grammar.specs.Private.ItemRow.{items_in}

abbrev pub file_view : Inside → FileValue
file_view f = record { frame = f.frame; items = items_in f.records.items }

-- a file can be this; the bytes are those that its items are written as, and the table has the definitions in force
pub record IsKept (f : Inside) : Type 0 where
  pub can_be : CanBeFile (file_view f)
  pub written : encoded_items (items_in f.records.items) ≡ f.records.items
  pub table : (l : ℕ) → definition_in f.table l ≡ in_force (items_in f.records.items) l
