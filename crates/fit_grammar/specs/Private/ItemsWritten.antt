-- What is known while the items of a file are written, one after another.
use Rattle.std.specs.Prelude.{◌≡◌, ℕ, List, ◌++◌, map, Option, Ok}
use Rattle.std.specs.List.{AllByRecursion}
use Rattle.fit_grammar.specs.Format.Item.{Item}
use Rattle.fit_grammar.specs.Format.Encoding.{encoded_items, HasEncoding}
use Rattle.fit_grammar.specs.Calls.LentItem.{LentItem, item_lent}
use Rattle.fit_grammar.specs.Calls.CheckedOutput.{WritesChecked}

-- the items before those that are left were handed over and added to the checksum, and those that are left have an encoding
pub record ItemsWritten (items : List Item) (old now : Option (List ℕ)) (before after : ℕ)
    (left : List LentItem) : Type 0 where
  pub made : List Item
  pub parts : items ≡ made ++ map item_lent left
  pub encodable : AllByRecursion HasEncoding (map item_lent left)
  pub written : WritesChecked {T = Unit {0}} {E = Unit {0}} old now before after (Ok tt)
      (encoded_items made)
