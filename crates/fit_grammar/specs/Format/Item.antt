-- Items, which are definitions and data messages, and the bytes that spell them (FIT protocol, "Records").
use Rattle.std.specs.Prelude.{◌≡◌, ℕ, ◌+◌, ◌*◌, ◌/◌, ◌%◌, Bool, true, false, List, [], ◌∷◌, ◌++◌, length, flat_map, sum_by, Option, Some, None, nat_lt, ◌==◌, if◌then◌else◌}
use Rattle.fit_base.specs.declared.order.Arch.{Arch}
use Rattle.fit_base.specs.declared.order.Arch.TheVariants.{Little, Big}
use Rattle.fit_base.specs.Number.{number}
use Rattle.fit_grammar.specs.declared.definition.FieldDefinition.{FieldDefinition}
use Rattle.fit_grammar.specs.declared.definition.DeveloperFieldDefinition.{DeveloperFieldDefinition}
use Rattle.fit_grammar.specs.declared.definition.Definition.{Definition}

-- a definition; or a data message with its local number, the time offset of a compressed timestamp, and its content
pub data Item : Type 0 where
  Defines : Definition → Item
  Data : ℕ → Option ℕ → List ℕ → Item

-- what the first byte of an item encodes: a definition of a local number, with developer fields announced or not, or a data
-- message of a local number, with a time offset or none
pub data Head : Type 0 where
  DefinitionHead : ℕ → Bool → Head
  DataHead : ℕ → Option ℕ → Head

-- if bit 7 is set: a compressed timestamp, with the local number in bits 5 and 6 and the time offset in bits 0 to 4; otherwise
-- bit 6 separates definitions from data, bit 5 of a definition announces developer fields, and bits 0 to 3 are the local
-- number; other bits are reserved
abbrev pub head_of : ℕ → Head
head_of byte =
    if nat_lt byte 64 then DataHead (byte % 16) None
    else if nat_lt byte 128 then DefinitionHead (byte % 16) (byte / 32 % 2 == 1)
    else DataHead (byte / 32 % 4) (Some (byte % 32))

-- the low bit of the architecture byte gives the byte order
abbrev pub arch_of : ℕ → Arch
arch_of byte = if byte % 2 == 0 then Little else Big

-- the three bytes of a field in a definition
abbrev pub field_bytes : FieldDefinition → List ℕ
field_bytes field = field.number ∷ field.size ∷ field.base ∷ []

-- the three bytes of a developer field in a definition
abbrev pub developer_bytes : DeveloperFieldDefinition → List ℕ
developer_bytes field = field.number ∷ field.size ∷ field.index ∷ []

-- after the fields, if developer fields are announced: their number, and three bytes for each
abbrev pub developer_part : Bool → List DeveloperFieldDefinition → List ℕ
developer_part false fields = []
developer_part true fields = length fields ∷ flat_map developer_bytes fields

-- the number of bytes of that part
abbrev pub part_size : Bool → ℕ → ℕ
part_size false count = 0
part_size true count = 1 + 3 * count

-- the bytes of a definition. The bytes with names here may be any that encode what is required. A definition that announces no
-- developer fields has none; one that announces them may have none too.
pub record SpellsDefinition (d : Definition) (bytes : List ℕ) : Type 0 where
  pub first : ℕ
  pub reserved : ℕ
  pub architecture : ℕ
  pub global_1 : ℕ
  pub global_2 : ℕ
  pub announced : Bool
  pub laid_out : bytes
      ≡ first ∷ reserved ∷ architecture ∷ global_1 ∷ global_2 ∷ length d.fields.items
      ∷ (flat_map field_bytes d.fields.items ++ developer_part announced d.developer.items)
  pub head : head_of first ≡ DefinitionHead d.local announced
  pub none : announced ≡ false → d.developer.items ≡ []
  pub arch : arch_of architecture ≡ d.arch
  pub global : number d.arch (global_1 ∷ global_2 ∷ []) ≡ d.global

-- the bytes of a data message
pub record SpellsData (local : ℕ) (offset : Option ℕ) (content bytes : List ℕ) : Type 0 where
  pub first : ℕ
  pub laid_out : bytes ≡ first ∷ content
  pub head : head_of first ≡ DataHead local offset

abbrev pub Spells : Item → List ℕ → Type 0
Spells (Defines d) bytes = SpellsDefinition d bytes
Spells (Data local offset content) bytes = SpellsData local offset content bytes

-- the size in bytes of a data message's fields under a definition, and of its developer fields, which come after them
abbrev pub fields_size : Definition → ℕ
fields_size d = sum_by (λ field. field.size) d.fields.items

abbrev pub developer_size : Definition → ℕ
developer_size d = sum_by (λ field. field.size) d.developer.items

-- the size in bytes of a data message's content under a definition
abbrev pub content_size : Definition → ℕ
content_size d = fields_size d + developer_size d

-- whether a definition has developer fields; if so, it is written with the announcement
abbrev pub has_any : List DeveloperFieldDefinition → Bool
has_any [] = false
has_any (field ∷ fields) = true

-- a definition without developer fields
abbrev pub native_definition : ℕ → Arch → ℕ → List FieldDefinition → Definition
native_definition local arch global fields =
    record {
      local = local;
      arch = arch;
      global = global;
      fields = record { items = fields };
      developer = record { items = [] };
    }

-- the number of bytes that an item is written as
abbrev pub item_size : Item → ℕ
item_size (Defines d) =
    6 + 3 * length d.fields.items + part_size (has_any d.developer.items) (length d.developer.items)
item_size (Data local offset content) = 1 + length content
