-- Rows of items in the bytes that spell them, one after another.
use Rattle.std.specs.Prelude.{◌≡◌, ℕ, zero, suc, ◌<◌, List, [], ◌∷◌, take, drop, length, slice_index, Option, Some, Result, Ok, Err, unwrap_or, option_map}
use Rattle.fit_grammar.specs.declared.definition.Definition.{Definition}
use Rattle.fit_grammar.specs.declared.item.Item.{Item as ReadItem}
use Rattle.fit_grammar.specs.declared.item.Item.TheVariants as items
use Rattle.fit_grammar.specs.declared.item.ItemFault.{ItemFault}
use Rattle.fit_grammar.specs.Format.Item.{Item, Defines, Data, Head, DefinitionHead, DataHead, head_of, content_size}
use Rattle.fit_grammar.specs.Format.Records.{in_force}
use Rattle.fit_grammar.specs.Private.DefinitionBytes.{definition_at}
use Rattle.fit_grammar.specs.Calls.Step.{definition_length_of, least_length_of, item_of, ItemAtFront}
use Rattle.fit_grammar.specs.Calls.Table.{in_force_after}

-- the item that the bytes begin with, given their head
abbrev pub item_by : (ℕ → Option Definition) → Head → List ℕ → Item
item_by definition_for (DefinitionHead local announced) bytes =
    Defines (definition_at (take (definition_length_of announced bytes) bytes))
item_by definition_for (DataHead local offset) bytes =
    Data local offset (take (unwrap_or (option_map content_size (definition_for local)) 0)
    (drop 1 bytes))

abbrev pub item_at : (ℕ → Option Definition) → List ℕ → Item
item_at definition_for bytes = item_by definition_for (head_of (slice_index bytes 0)) bytes

abbrev pub length_or : ℕ → Result ℕ ItemFault → ℕ
length_or other (Ok count) = count
length_or other (Err fault) = other

-- the number of bytes of that item
abbrev pub length_at : (ℕ → Option Definition) → List ℕ → ℕ
length_at definition_for bytes = length_or 1 (least_length_of definition_for bytes)

-- the items that the bytes begin with, at most this many
abbrev pub items_at : ℕ → (ℕ → Option Definition) → List ℕ → List Item
items_at zero definition_for bytes = []
items_at (suc count) definition_for [] = []
items_at (suc count) definition_for (byte ∷ bytes) =
    let item = item_at definition_for (byte ∷ bytes) in
    item ∷ items_at count (in_force_after item definition_for)
    (drop (length_at definition_for (byte ∷ bytes)) (byte ∷ bytes))

-- all the items of a row of bytes, under these definitions
abbrev pub items_under : (ℕ → Option Definition) → List ℕ → List Item
items_under definition_for bytes = items_at (length bytes) definition_for bytes

-- the same under no definitions
abbrev pub items_in : List ℕ → List Item
items_in bytes = items_under (in_force []) bytes

-- under these definitions the bytes are spellings of the items, in order, joined
abbrev pub RecordsBy : (ℕ → Option Definition) → List ℕ → List Item → Type 0
RecordsBy definition_for bytes [] = bytes ≡ []
RecordsBy definition_for bytes (item ∷ items) =
    (used : ℕ) × ItemAtFront definition_for bytes item used
    × RecordsBy (in_force_after item definition_for) (drop used bytes) items

-- all of the bytes are read as items
abbrev pub AreRead : (ℕ → Option Definition) → List ℕ → Type 0
AreRead definition_for bytes = RecordsBy definition_for bytes (items_under definition_for bytes)

-- a definition has a local number below 16, and a data message has the definition of its local number
abbrev pub IsLentBy : (ℕ → Option Definition) → ReadItem → Type 0
IsLentBy definition_for (items.Definition d) = d.local < 16
IsLentBy definition_for (items.Data m) = definition_for m.local ≡ Some m.definition

-- the bytes spell this item and others, and `others` are the bytes of those
pub record IsFirst (definition_for : ℕ → Option Definition) (bytes : List ℕ) (item : ReadItem)
    (others : List ℕ) : Type 0 where
  pub first : items_under definition_for bytes
      ≡ item_of item ∷ items_under (in_force_after (item_of item) definition_for) others
  pub read : AreRead (in_force_after (item_of item) definition_for) others
  pub fewer : length others < length bytes
  pub lent : IsLentBy definition_for item
