-- How the values of a field are written in a notation.
use Rattle.std.specs.Prelude.{ℕ, Bool, true, ◌/◌, ◌%◌, List, [], ◌∷◌, ◌++◌, codes, decimal, Option, Some, None, ◌==◌, ◌&&◌, ◌||◌, not, nat_le, if◌then◌else◌}
use Rattle.std.specs.Fmt.{digit_glyph, signed_decimal}
use Rattle.std.specs.Int.{to_be_bytes, w32, w64}
use Rattle.std.specs.List.{flat_map, list_all, before_first, join_by}
use Rattle.std.specs.Str.{is_utf8}
use Rattle.fit_base.specs.declared.base.BaseType.{BaseType}
use Rattle.fit_base.specs.declared.base.BaseType.TheVariants.{String, Byte, Float32, Float64}
use Rattle.fit_base.specs.Number.{twos_complement}
use Rattle.fit_base.specs.Base.{row_of, base_type, has_sign}
use Rattle.fit_base.specs.Value.{Values, Numbers, Raw}
use Rattle.fit_grammar.specs.Format.Message.{MessageField}
use Rattle.fit_text.specs.Date.{date_text}
use Rattle.fit_text.specs.Notation.{Notation}

-- ---- bytes

-- two upper-case hexadecimal digits of a byte
unfoldable pub hex_byte : ℕ → List ℕ
hex_byte byte = digit_glyph true (byte / 16) ∷ digit_glyph true (byte % 16) ∷ []

-- `0x` and two digits a byte; nothing for no bytes
unfoldable pub hex_text : List ℕ → List ℕ
hex_text [] = []
hex_text (byte ∷ bytes) = codes "0x" ++ flat_map hex_byte (byte ∷ bytes)

-- a text between marks
abbrev pub marked : Notation → List ℕ → List ℕ
marked notation text = notation.mark ++ text ++ notation.mark

abbrev pub bytes_as : Notation → List ℕ → List ℕ
bytes_as notation bytes = marked notation (hex_text bytes)

-- the bytes of a field of type byte, which is invalid if all of them are FF
unfoldable pub byte_as : Notation → List ℕ → List ℕ
byte_as notation bytes =
    if list_all (λ byte. byte == 255) bytes then notation.invalid else bytes_as notation bytes

-- ---- strings

-- a text between quotation marks
abbrev pub quoted : List ℕ → List ℕ
quoted text = codes "\"" ++ text ++ codes "\""

-- a printable byte other than a quotation mark or backslash
abbrev pub is_plain : ℕ → Bool
is_plain byte = nat_le 32 byte && nat_le byte 126 && not (byte == 34) && not (byte == 92)

-- a byte of a string: as it is if it is printable, or part of a character of UTF-8; any other by its digits
unfoldable pub string_byte : List ℕ → Bool → ℕ → List ℕ
string_byte escape in_utf8 byte =
    if is_plain byte || (in_utf8 && nat_le 128 byte) then byte ∷ [] else escape ++ hex_byte byte

-- a string between quotation marks, up to its first zero byte
unfoldable pub string_as : Notation → List ℕ → List ℕ
string_as notation bytes =
    let text = before_first (λ byte. byte == 0) bytes in quoted
    (flat_map (string_byte notation.escape (notation.utf8 && is_utf8 text)) text)

-- ---- numbers

-- a whole number in decimal, read as two's complement if its type has a sign
unfoldable pub whole_text : BaseType → ℕ → List ℕ
whole_text type n =
    if has_sign type then signed_decimal (twos_complement (row_of type).size n) else decimal n

-- a number that is not invalid; for a float, the bytes of its bits
unfoldable pub plain_as : Notation → BaseType → ℕ → List ℕ
plain_as notation Float32 n = bytes_as notation (to_be_bytes w32 n)
plain_as notation Float64 n = bytes_as notation (to_be_bytes w64 n)
plain_as notation type n = whole_text type n

-- a number, or what stands for its type's invalid value
unfoldable pub number_as : Notation → BaseType → ℕ → List ℕ
number_as notation type n =
    if n == (row_of type).invalid then notation.invalid else plain_as notation type n

-- one number, or several with commas between them
unfoldable pub numbers_as : Notation → (ℕ → List ℕ) → List ℕ → List ℕ
numbers_as notation number (n ∷ []) = number n
numbers_as notation number numbers =
    notation.opening ++ join_by number (codes ",") numbers ++ notation.closing

-- ---- fields

-- a type whose values are written as numbers
abbrev pub IsNumber : BaseType → Type 0
IsNumber String = ⊥
IsNumber Byte = ⊥
IsNumber type = Unit {0}

-- the values of a type, of which there is at least one; `number` writes one of a type of numbers
abbrev pub some_as : Notation → (BaseType → ℕ → List ℕ) → Option BaseType → List ℕ → List ℕ
some_as notation number None numbers = []
some_as notation number (Some String) bytes = string_as notation bytes
some_as notation number (Some Byte) bytes = byte_as notation bytes
some_as notation number (Some type) numbers = numbers_as notation (number type) numbers

-- the values of a field
abbrev pub values_as : Notation → (BaseType → ℕ → List ℕ) → Option BaseType → Values → List ℕ
values_as notation number type (Raw bytes) = bytes_as notation bytes
values_as notation number type (Numbers []) = notation.nothing
values_as notation number type (Numbers (n ∷ numbers)) =
    some_as notation number type (n ∷ numbers)

-- a date, or else the values of the field
abbrev pub shown_as : Notation → Option ℕ → MessageField → List ℕ
shown_as notation (Some time) field = marked notation (date_text time)
shown_as notation None field =
    values_as notation (number_as notation) (base_type field.base) field.values
