-- What is known while the plain form of a file is made, item by item.
use Rattle.std.specs.Prelude.{◌≡◌, ℕ, ◌+◌, ◌<◌, List, ◌++◌, Bool, Option, Some, option_map, is_some, length, map}
use Rattle.fit_grammar.specs.declared.definition.Definition.{Definition}
use Rattle.fit_grammar.specs.declared.item.data_message.DataMessage.{DataMessage}
use Rattle.fit_grammar.specs.Format.Item.{Item}
use Rattle.fit_grammar.specs.Format.Records.{in_force, data_size}
use Rattle.fit_grammar.specs.Format.File.{FileValue}
use Rattle.fit_grammar.specs.Calls.LentItem.{LentItem, DefinesHere, DataHere, LentData, data_under, item_lent, items_lent, AllUnder}
use Rattle.fit_grammar.specs.Calls.PlainForm.{timed_definition, plain_definition, is_timed, none_timed, plain_after, too_long_after}

-- a data message with its time, as it is lent
abbrev pub lent_data : DataMessage → Option ℕ → LentData
lent_data m time = data_under m.definition m.local m.offset time m.content.now

-- an item can be taken: its local number is below 16, and if no definition is written before a message, its plain one is in
-- force
abbrev pub IsReady : List Item → List Bool → LentItem → Type 0
IsReady items timed (DefinesHere d) = d.local < 16
IsReady items timed (DataHere m) =
    (m.local < 16) × (m.definition.local ≡ m.local)
    × (is_timed timed m.local ≡ is_some m.time → in_force items m.local ≡ Some (plain_definition m))

-- the definitions in force are those of the lookup, with the time in front or not
abbrev pub AreTimed : (ℕ → Option Definition) → List Bool → List Item → Type 0
AreTimed definition_for timed items =
    (l : ℕ) → in_force items l ≡ option_map (timed_definition (is_timed timed l)) (definition_for l)

-- these items are the plain form of the file up to this place; the items `left` come after it
pub record PlainSoFar (v : FileValue) (items : List Item) (timed : List Bool) (place : ℕ)
    (left : List LentItem) : Type 0 where
  pub definition_for : ℕ → Option Definition
  pub under : AllUnder definition_for left
  pub named : (l : ℕ) (d : Definition) → definition_for l ≡ Some d → d.local ≡ l
  pub are_timed : AreTimed definition_for timed items
  pub count : length timed ≡ 16
  pub made : items ++ plain_after timed left ≡ plain_after none_timed (items_lent v.items)
  pub long : too_long_after timed (data_size items) place left
      ≡ too_long_after none_timed 0 v.frame.header_size (items_lent v.items)
  pub before : List Item
  pub passed : v.items ≡ before ++ map item_lent left
  pub place_is : place ≡ v.frame.header_size + data_size before
