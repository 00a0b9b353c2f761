-- How a lent file has its items: in the bytes that spell them.
use Rattle.std.specs.Prelude.{◌≡◌, []}
use Rattle.fit_grammar.specs.declared.file.lent.LentFile.TheInside.{Inside}
use Rattle.fit_grammar.specs.Format.Records.{in_force, data_size}
use Rattle.fit_grammar.specs.Format.File.{FileValue}
use Rattle.fit_grammar.specs.Calls.Possible.{CanBeFile}
use Rattle.fit_grammar.specs.Private.ItemRow.{items_in, AreRead}

abbrev pub lent_view : Inside → FileValue
lent_view f = record { frame = f.frame; items = items_in f.records.now }

-- a file can be this; all of the bytes are read as its items, and the size is that of what they are written as
pub record IsLent (f : Inside) : Type 0 where
  pub can_be : CanBeFile (lent_view f)
  pub read : AreRead (in_force []) f.records.now
  pub size : f.size ≡ data_size (lent_view f).items
