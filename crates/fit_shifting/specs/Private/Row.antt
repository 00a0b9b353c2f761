-- The items of a file whose times are moved, and what is known while it is made.
use Rattle.std.specs.Prelude.{◌≡◌, ℕ, ◌+◌, ◌<◌, List, ◌++◌, length, map, Option, Some, None}
use Rattle.std.specs.List.{AllByRecursion}
use Rattle.fit_grammar.specs.declared.definition.Definition.{Definition}
use Rattle.fit_grammar.specs.Format.Item.{Item, Defines, Data, content_size}
use Rattle.fit_grammar.specs.Format.Records.{in_force, data_size}
use Rattle.fit_grammar.specs.Format.File.{FileValue}
use Rattle.fit_grammar.specs.Calls.Adding.{IsTooLong}
use Rattle.fit_grammar.specs.Calls.LentItem.{LentItem, DefinesHere, DataHere, item_lent, items_lent, AllUnder}
use Rattle.fit_shifting.specs.declared.shift.Shift.{Shift}
use Rattle.fit_shifting.specs.Private.Content.{content_moved}

-- an item without a compressed timestamp, moved
abbrev pub item_moved : Shift → LentItem → Item
item_moved shift (DefinesHere d) = Defines d
item_moved shift (DataHere m) =
    Data m.local None
    (content_moved shift m.definition.global m.definition.arch m.definition.fields.items m.content)

abbrev pub items_moved : Shift → List LentItem → List Item
items_moved shift items = map (item_moved shift) items

-- the item has no compressed timestamp, and its content is as long as its definition requires
abbrev pub IsWhole : LentItem → Type 0
IsWhole (DefinesHere d) = Unit {0}
IsWhole (DataHere m) =
    (m.offset ≡ None) × (m.time ≡ None) × (content_size m.definition ≡ length m.content)

-- it can be added to this file when it is moved: its definition is in force, and it fits
abbrev pub CanTake : Shift → FileValue → LentItem → Type 0
CanTake shift v (DefinesHere d) = (d.local < 16) × (IsTooLong v (Defines d) → ⊥)
CanTake shift v (DataHere m) =
    (in_force v.items m.local ≡ Some m.definition)
    × (IsTooLong v (item_moved shift (DataHere m)) → ⊥)

-- these items are the moved ones of the file up to where the items `left` come
pub record MovedSoFar (shift : Shift) (v : FileValue) (items : List Item) (left : List LentItem)
    : Type 0 where
  pub definition_for : ℕ → Option Definition
  pub under : AllUnder definition_for left
  pub are_in_force : (l : ℕ) → in_force items l ≡ definition_for l
  pub made : items ++ items_moved shift left ≡ items_moved shift (items_lent v.items)
  pub size : data_size items + data_size (map item_lent left) ≡ data_size v.items
  pub whole : AllByRecursion IsWhole left

-- the items of the file that are written before this place, and those that are left
pub record IsPassed (v : FileValue) (place : ℕ) (left : List LentItem) : Type 0 where
  pub before : List Item
  pub passed : v.items ≡ before ++ map item_lent left
  pub place_is : place ≡ v.frame.header_size + data_size before
