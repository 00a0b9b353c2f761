-- Rows of items under the definitions in force (FIT protocol, "Records").
use Rattle.std.specs.Prelude.{◌≡◌, ℕ, List, [], ◌∷◌, ◌++◌, length, Option, Some, None, ◌==◌, if◌then◌else◌, IsSomeAnd, sum_by}
use Rattle.std.specs.Option.{option_or}
use Rattle.fit_grammar.specs.declared.definition.Definition.{Definition}
use Rattle.fit_grammar.specs.Format.Item.{Item, Defines, Data, Spells, content_size, item_size}

-- the definition that an item gives to a local number
abbrev pub definition_by : Item → ℕ → Option Definition
definition_by (Defines d) local = if d.local == local then Some d else None
definition_by (Data _ _ _) local = None

-- the definition in force after these items: the last one with this local number
abbrev pub in_force : List Item → ℕ → Option Definition
in_force [] local = None
in_force (item ∷ items) local = option_or (in_force items local) (definition_by item local)

-- under these definitions of local numbers, a data message has one, and its sizes add up to the length of the content
abbrev pub IsDefinedBy : (ℕ → Option Definition) → Item → Type 0
IsDefinedBy definition_for (Defines d) = Unit {0}
IsDefinedBy definition_for (Data local offset content) =
    IsSomeAnd (definition_for local) (λ d. content_size d ≡ length content)

-- the same after these items
abbrev pub IsDefined : List Item → Item → Type 0
IsDefined before item = IsDefinedBy (in_force before) item

-- the item's own bytes, and the rest after them
pub record Begins (before : List Item) (item : Item) (bytes rest : List ℕ) : Type 0 where
  pub own : List ℕ
  pub joined : bytes ≡ own ++ rest
  pub spelled : Spells item own
  pub defined : IsDefined before item

-- after the items `before`, the bytes are spellings of these items, in order, joined
abbrev pub RecordsAfter : List Item → List ℕ → List Item → Type 0
RecordsAfter before bytes [] = bytes ≡ []
RecordsAfter before bytes (item ∷ items) =
    (rest : List ℕ) × Begins before item bytes rest × RecordsAfter (before ++ item ∷ []) rest items

-- the bytes are spellings of the items, in order, joined, each data message with its definition
abbrev pub Records : List ℕ → List Item → Type 0
Records bytes items = RecordsAfter [] bytes items

-- the number of bytes that the items are written as
abbrev pub data_size : List Item → ℕ
data_size items = sum_by item_size items
