-- Which fields the messages of a file have, native ones and those of developers.
use Rattle.std.specs.Prelude.{◌≡◌, ℕ, ◌+◌, ◌*◌, ◌<◌, max, Bool, false, List, [], ◌∷◌, ◌++◌, length, map, slice_index_or, take, drop, Option, Some, None, is_some, ◌==◌, ◌&&◌, ◌||◌, if◌then◌else◌}
use Rattle.fit_base.specs.declared.base.BaseType.{BaseType}
use Rattle.fit_base.specs.Base.{row_of, base_type}
use Rattle.fit_grammar.specs.declared.definition.FieldDefinition.{FieldDefinition}
use Rattle.fit_grammar.specs.declared.definition.DeveloperFieldDefinition.{DeveloperFieldDefinition}
use Rattle.fit_grammar.specs.declared.definition.Definition.{Definition}
use Rattle.fit_grammar.specs.Calls.LentItem.{LentItem, DefinesHere, DataHere}
use Rattle.fit_columns.specs.declared.fields.FieldHere.{FieldHere}
use Rattle.fit_columns.specs.Columns.{is_whole}

-- the code of a field is its number
abbrev pub native_here : FieldDefinition → FieldHere
native_here field = record { code = field.number; size = field.size; base = field.base }

-- that of a developer field is its number and 256 times one more than its index; its base type byte is 255, which is that of no type
abbrev pub developer_code : DeveloperFieldDefinition → ℕ
developer_code field = 256 * (field.index + 1) + field.number

abbrev pub developer_here : DeveloperFieldDefinition → FieldHere
developer_here field = record { code = developer_code field; size = field.size; base = 255 }

-- the fields of a definition's messages, in their order
abbrev pub fields_here : Definition → List FieldHere
fields_here d = map native_here d.fields.items ++ map developer_here d.developer.items

-- where a field begins in the content of a message, its base type byte, and its bytes
pub record Written : Type 0 where
  pub at : ℕ
  pub base : ℕ
  pub bytes : List ℕ

-- the first field of a code in what is left of a content from this place on; one without bytes if there is none
abbrev pub written_from : ℕ → ℕ → List FieldHere → List ℕ → Written
written_from at code [] content = record { at = 0; base = 0; bytes = [] }
written_from at code (field ∷ fields) content =
    if field.code == code
    then record { at = at; base = field.base; bytes = take field.size content }
    else written_from (at + field.size) code fields (drop field.size content)

-- whether a field of this base type byte and size is one whole number of at most four bytes
abbrev pub is_one_by : Option BaseType → ℕ → Bool
is_one_by None size = false
is_one_by (Some type) size = is_whole type && ((row_of type).size == size)

-- what a field holds: 1 is nothing, 2 one whole number of at most four bytes, 3 any other value
abbrev pub holding : FieldHere → ℕ
holding field =
    if field.size == 0 then 1
    else if is_one_by (base_type field.base) field.size then 2 else 3

-- the greatest of what the fields of a code hold; 0 if there are none
abbrev pub held_by : ℕ → List FieldHere → ℕ
held_by code [] = 0
held_by code (field ∷ fields) =
    max (if field.code == code then holding field else 0) (held_by code fields)

-- the same over the messages of this global number
abbrev pub held_in : ℕ → List LentItem → ℕ → ℕ
held_in message [] code = 0
held_in message (DefinesHere d ∷ items) code = held_in message items code
held_in message (DataHere m ∷ items) code =
    max (if m.definition.global == message then held_by code (fields_here m.definition) else 0)
    (held_in message items code)

-- after these fields were noted, each code has the greatest of what was held there
abbrev pub Notes : List FieldHere → List ℕ → List ℕ → Type 0
Notes fields before after =
    (code : ℕ) → code < length before
    → slice_index_or after code 0 ≡ max (slice_index_or before code 0) (held_by code fields)

-- the number at each code says what the messages hold there
abbrev pub SaysHeld : ℕ → List LentItem → List ℕ → Type 0
SaysHeld message items found =
    (code : ℕ) → code < length found → slice_index_or found code 0 ≡ held_in message items code

-- whether a message of this global number has the time of a compressed timestamp
abbrev pub timed_in : ℕ → List LentItem → Bool
timed_in message [] = false
timed_in message (DefinesHere d ∷ items) = timed_in message items
timed_in message (DataHere m ∷ items) =
    ((m.definition.global == message) && is_some m.time) || timed_in message items
