-- What a field of a data message holds (FIT protocol, "Base types").
use Rattle.std.specs.Prelude.{◌≡◌, ◌⊎◌, ℕ, zero, suc, ◌*◌, ◌/◌, ◌%◌, ℤ, List, [], ◌∷◌, length, take, drop, All, Bool, true, false, Option, Some, None, ◌==◌, if◌then◌else◌}
use Rattle.std.specs.List.{before_first}
use Rattle.fit_base.specs.declared.order.Arch.{Arch}
use Rattle.fit_base.specs.declared.base.BaseType.{BaseType}
use Rattle.fit_base.specs.declared.base.BaseType.TheVariants.{Byte}
use Rattle.fit_base.specs.Number.{number, twos_complement}
use Rattle.fit_base.specs.Base.{row_of, base_type, has_sign}

-- a field's bytes, under the base type byte and the architecture of its definition
pub record Field : Type 0 where
  pub base : ℕ
  pub arch : Arch
  pub bytes : List ℕ

-- the field with these bytes, of this type
abbrev pub field_of : BaseType → Arch → List ℕ → Field
field_of type arch bytes = record { base = (row_of type).code; arch = arch; bytes = bytes }

-- the size of a value of the field's base type; 0 if the type is unknown
abbrev pub size_by : Option BaseType → ℕ
size_by None = 0
size_by (Some type) = (row_of type).size

abbrev pub value_size : Field → ℕ
value_size field = size_by (base_type field.base)

-- a field is carried raw if its base type byte is unknown or its size is not a multiple of the base size
abbrev pub raw_by : Option BaseType → ℕ → Bool
raw_by None len = true
raw_by (Some type) len = if len % (row_of type).size == 0 then false else true

abbrev pub is_raw : Field → Bool
is_raw field = raw_by (base_type field.base) (length field.bytes)

-- how many values a field has
abbrev pub count_of : Field → ℕ
count_of field = if is_raw field then 0 else length field.bytes / value_size field

-- the number of the value at an index
abbrev pub unsigned_at : Field → ℕ → ℕ
unsigned_at field i =
    number field.arch (take (value_size field) (drop (i * value_size field) field.bytes))

abbrev pub signed_at : Field → ℕ → ℤ
signed_at field i = twos_complement (value_size field) (unsigned_at field i)

-- whether the values of the field have a sign
abbrev pub signed_by : Option BaseType → Bool
signed_by None = false
signed_by (Some type) = has_sign type

abbrev pub is_signed : Field → Bool
is_signed field = signed_by (base_type field.base)

-- a value is invalid if it is its type's invalid value; a value of type byte is invalid if all bytes of its field are 0xFF
abbrev pub IsInvalidBy : Option BaseType → Field → ℕ → Type 0
IsInvalidBy None field i = Unit {0}
IsInvalidBy (Some Byte) field i = All (λ byte. byte ≡ 255) field.bytes
IsInvalidBy (Some type) field i = unsigned_at field i ≡ (row_of type).invalid

abbrev pub IsInvalidAt : Field → ℕ → Type 0
IsInvalidAt field i = IsInvalidBy (base_type field.base) field i

-- the numbers of this many values of this size, one after another
abbrev pub numbers : Arch → ℕ → ℕ → List ℕ → List ℕ
numbers arch size zero bytes = []
numbers arch size (suc count) bytes =
    number arch (take size bytes) ∷ numbers arch size count (drop size bytes)

-- the text of a field: the bytes before the first zero byte
abbrev pub text_of : Field → List ℕ
text_of field = before_first (λ byte. byte == 0) field.bytes

-- a value of a base type has 1, 2, 4 or 8 bytes
abbrev pub IsValueSize : ℕ → Type 0
IsValueSize size = (size ≡ 1) ⊎ (size ≡ 2) ⊎ (size ≡ 4) ⊎ (size ≡ 8)

-- what a field holds, whatever its architecture: the number of each value, or raw bytes
pub data Values : Type 0 where
  Numbers : List ℕ → Values
  Raw : List ℕ → Values

abbrev pub values_of : Field → Values
values_of field =
    if is_raw field
    then Raw field.bytes
    else Numbers (numbers field.arch (value_size field) (count_of field) field.bytes)
