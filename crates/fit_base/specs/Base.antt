-- The table of base types (FIT protocol, "Base types").
use Rattle.std.specs.Prelude.{ℕ, ◌*◌, ◌-◌, ◌^◌, ℤ, pos, neg_ℤ, Bool, true, false, List, [], ◌∷◌, Option, Some, None, ◌==◌, if◌then◌else◌}
use Rattle.fit_base.specs.declared.base.BaseType.{BaseType}
use Rattle.fit_base.specs.declared.base.BaseType.TheVariants.{Enum, Sint8, Uint8, Sint16, Uint16, Sint32, Uint32, String, Float32, Float64, Uint8z, Uint16z, Uint32z, Byte, Sint64, Uint64, Uint64z}

-- a row of the table: the base type byte, the number of bytes of a value, and the invalid value as a number
pub record Row : Type 0 where
  pub code : ℕ
  pub size : ℕ
  pub invalid : ℕ

abbrev row : ℕ → ℕ → ℕ → Row
row code size invalid = record { code = code; size = size; invalid = invalid }

abbrev pub row_of : BaseType → Row
row_of Enum = row 0x00 1 0xFF
row_of Sint8 = row 0x01 1 0x7F
row_of Uint8 = row 0x02 1 0xFF
row_of Sint16 = row 0x83 2 0x7FFF
row_of Uint16 = row 0x84 2 0xFFFF
row_of Sint32 = row 0x85 4 0x7FFFFFFF
row_of Uint32 = row 0x86 4 0xFFFFFFFF
row_of String = row 0x07 1 0x00
row_of Float32 = row 0x88 4 0xFFFFFFFF
row_of Float64 = row 0x89 8 0xFFFFFFFFFFFFFFFF
row_of Uint8z = row 0x0A 1 0x00
row_of Uint16z = row 0x8B 2 0x0000
row_of Uint32z = row 0x8C 4 0x00000000
row_of Byte = row 0x0D 1 0xFF
row_of Sint64 = row 0x8E 8 0x7FFFFFFFFFFFFFFF
row_of Uint64 = row 0x8F 8 0xFFFFFFFFFFFFFFFF
row_of Uint64z = row 0x90 8 0x0000000000000000

-- the type with this byte in a list of types
abbrev pub base_type_in : List BaseType → ℕ → Option BaseType
base_type_in [] code = None
base_type_in (type ∷ types) code =
    if (row_of type).code == code then Some type else base_type_in types code

-- the type with this base type byte, if one exists
abbrev pub base_type : ℕ → Option BaseType
base_type code =
    base_type_in (Enum ∷ Sint8 ∷ Uint8 ∷ Sint16 ∷ Uint16 ∷ Sint32 ∷ Uint32 ∷ String ∷ Float32
    ∷ Float64 ∷ Uint8z
    ∷ Uint16z ∷ Uint32z ∷ Byte ∷ Sint64 ∷ Uint64 ∷ Uint64z ∷ []) code

-- whether values of the type have a sign
abbrev pub has_sign : BaseType → Bool
has_sign Sint8 = true
has_sign Sint16 = true
has_sign Sint32 = true
has_sign Sint64 = true
has_sign _ = false

-- the least and the greatest value of a type; for a float, of its bits
abbrev pub least_of : BaseType → ℤ
least_of type = if has_sign type then neg_ℤ (pos (2 ^ (8 * (row_of type).size - 1))) else pos 0

abbrev pub greatest_of : BaseType → ℤ
greatest_of type =
    if has_sign type
    then pos (2 ^ (8 * (row_of type).size - 1) - 1) else pos (2 ^ (8 * (row_of type).size) - 1)
