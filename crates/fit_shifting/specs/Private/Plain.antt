-- The plain form of a file, its times moved where they are written.
use Rattle.std.specs.Prelude.{◌≡◌, ℕ, ◌<◌, List, [], ◌∷◌, ◌++◌, length, Bool, Option, None, is_some}
use Rattle.fit_grammar.specs.declared.definition.Definition.{Definition}
use Rattle.fit_grammar.specs.Format.Item.{Item, Defines, Data, content_size}
use Rattle.fit_grammar.specs.Format.Encoding.{encoded_items}
use Rattle.fit_grammar.specs.Format.File.{FileValue}
use Rattle.fit_grammar.specs.Calls.LentItem.{LentItem, DefinesHere, DataHere, LentData, items_lent, AllUnder}
use Rattle.fit_grammar.specs.Calls.PlainForm.{plain_definition, plain_content, definitions_before, is_timed, timed_after, none_timed, plain_after}
use Rattle.fit_shifting.specs.declared.shift.Shift.{Shift}
use Rattle.fit_shifting.specs.Private.Content.{content_moved}

-- the content of a message's plain form, moved
abbrev pub plain_content_moved : Shift → LentData → List ℕ
plain_content_moved shift m =
    content_moved shift (plain_definition m).global (plain_definition m).arch
    (plain_definition m).fields.items (plain_content m)

abbrev pub plain_data_moved : Shift → LentData → Item
plain_data_moved shift m = Data m.local None (plain_content_moved shift m)

-- what is written for an item, moved
abbrev pub plain_item_moved : Shift → List Bool → LentItem → List Item
plain_item_moved shift timed (DefinesHere d) = Defines d ∷ []
plain_item_moved shift timed (DataHere m) =
    definitions_before (is_timed timed m.local) (is_some m.time) m.definition
    ++ plain_data_moved shift m ∷ []

abbrev pub plain_after_moved : Shift → List Bool → List LentItem → List Item
plain_after_moved shift timed [] = []
plain_after_moved shift timed (item ∷ items) =
    plain_item_moved shift timed item ++ plain_after_moved shift (timed_after timed item) items

-- the plain form of a file, moved
abbrev pub plain_items_moved : Shift → List Item → List Item
plain_items_moved shift items = plain_after_moved shift none_timed (items_lent items)

abbrev pub plain_of_moved : Shift → FileValue → FileValue
plain_of_moved shift v = record { frame = v.frame; items = plain_items_moved shift v.items }

-- the item has a local number
abbrev pub HasLocal : LentItem → Type 0
HasLocal (DefinesHere d) = d.local < 16
HasLocal (DataHere m) = m.local < 16

-- the content of a data message is as long as its definition requires
abbrev pub IsFilled : LentItem → Type 0
IsFilled (DefinesHere d) = Unit {0}
IsFilled (DataHere m) = content_size m.definition ≡ length m.content

-- the records are moved up to this place, where the items `left` come
pub record MovedUpTo (shift : Shift) (v : FileValue) (records : List ℕ) (at : ℕ) (timed : List Bool)
    (left : List LentItem) : Type 0 where
  pub before : List ℕ
  pub place_is : at ≡ length before
  pub records_are : records ≡ before ++ encoded_items (plain_after timed left)
  pub made : before ++ encoded_items (plain_after_moved shift timed left)
      ≡ encoded_items (plain_items_moved shift v.items)
  pub definition_for : ℕ → Option Definition
  pub under : AllUnder definition_for left
