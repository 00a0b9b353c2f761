-- A file with more items around its own.
use Rattle.std.specs.Prelude.{List, ◌++◌}
use Rattle.fit_grammar.specs.Format.Item.{Item}
use Rattle.fit_grammar.specs.Format.File.{FileValue}

abbrev pub with_items : List Item → FileValue → List Item → FileValue
with_items before v after = record { frame = v.frame; items = before ++ (v.items ++ after) }
