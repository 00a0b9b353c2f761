-- The cells of fields that have no single whole number of at most 32 bits: strings, floats, numbers of 64 bits, and several values.
use Rattle.std.specs.Prelude.{ℕ, ◌+◌, ◌/◌, ◌%◌, ℤ, pos, Bool, true, false, List, [], ◌∷◌, ◌++◌, length, Option, Some, None, codes, from_bits, ◌==◌, ◌||◌, nat_lt, if◌then◌else◌}
use Rattle.std.specs.Float.{binary32, binary64, float_is_finite}
use Rattle.std.specs.List.{flat_map, list_all, list_any, before_first}
use Rattle.std.specs.Str.{is_utf8}
use Rattle.fit_base.specs.declared.base.BaseType.{BaseType}
use Rattle.fit_base.specs.declared.base.BaseType.TheVariants.{String, Float32, Float64, Byte}
use Rattle.fit_base.specs.Base.{row_of, has_sign}
use Rattle.fit_base.specs.Number.{twos_complement}
use Rattle.fit_base.specs.Value.{Values, Numbers, Raw}
use Rattle.fit_table.specs.declared.unit.Unit.{Unit as AnyUnit}
use Rattle.fit_table.specs.Number.{unit_text}
use Rattle.fit_table.specs.Tokens.{Token, Text, float_tokens}

-- ---- strings

-- a byte of a string: a quotation mark is doubled, and a byte of Latin-1 becomes two of UTF-8
abbrev pub byte_cell : Bool → ℕ → List ℕ
byte_cell in_utf8 byte =
    if byte == 34 then 34 ∷ 34 ∷ []
    else if in_utf8 || nat_lt byte 128 then byte ∷ []
    else (192 + byte / 64) ∷ (128 + byte % 64) ∷ []

-- a comma, a quotation mark, CR or LF
abbrev pub is_special : ℕ → Bool
is_special byte = byte == 44 || byte == 34 || byte == 13 || byte == 10

-- what stands around a text: quotation marks if one of these is in it
abbrev pub marks_of : List ℕ → List ℕ
marks_of text = if list_any is_special text then codes "\"" else []

-- a text that is no UTF-8 is read as Latin-1
abbrev pub text_cell : List ℕ → List ℕ → List ℕ
text_cell empty [] = empty
text_cell empty text =
    marks_of text ++ (flat_map (byte_cell (is_utf8 text)) text ++ marks_of text)

-- a string up to its first zero byte
unfoldable pub string_cell : List ℕ → List ℕ → List ℕ
string_cell empty bytes = text_cell empty (before_first (λ byte. byte == 0) bytes)

-- ---- numbers and floats

-- whether a number is no value
abbrev pub is_none : BaseType → ℕ → Bool
is_none Float32 n = if float_is_finite (from_bits binary32 n) then false else true
is_none Float64 n = if float_is_finite (from_bits binary64 n) then false else true
is_none type n = n == (row_of type).invalid

-- the same among others that are one; bytes are invalid only all at once
abbrev pub is_gap : BaseType → ℕ → Bool
is_gap Byte n = false
is_gap type n = n == (row_of type).invalid

abbrev pub whole_value : BaseType → ℕ → ℤ
whole_value type n = if has_sign type then twos_complement (row_of type).size n else pos n

abbrev pub whole_cell : List ℕ → AnyUnit → BaseType → ℕ → List ℕ
whole_cell empty unit type n =
    if is_gap type n then [] else unit_text empty unit (whole_value type n)

-- a whole number in its unit, or a float, which has none
unfoldable pub value_tokens : List ℕ → AnyUnit → BaseType → ℕ → List Token
value_tokens empty unit Float32 n = float_tokens [] binary32 n
value_tokens empty unit Float64 n = float_tokens [] binary64 n
value_tokens empty unit type n = Text (whole_cell empty unit type n) ∷ []

-- values with bars between them
abbrev pub values_from : List ℕ → AnyUnit → BaseType → List ℕ → List ℕ → List Token
values_from empty unit type front [] = []
values_from empty unit type front (n ∷ numbers) =
    Text front ∷ (value_tokens empty unit type n
    ++ values_from empty unit type (codes "|") numbers)

-- a time without a date among several is nothing, a single one an empty cell
abbrev pub empty_among : List ℕ → List ℕ → List ℕ
empty_among empty numbers = if length numbers == 1 then empty else []

unfoldable pub values_tokens : List ℕ → AnyUnit → BaseType → List ℕ → List Token
values_tokens empty unit type numbers =
    if list_all (is_none type) numbers then Text empty ∷ []
    else values_from (empty_among empty numbers) unit type [] numbers

-- ---- fields

abbrev pub known_tokens : List ℕ → AnyUnit → BaseType → List ℕ → List Token
known_tokens empty unit String bytes = Text (string_cell empty bytes) ∷ []
known_tokens empty unit type numbers = values_tokens empty unit type numbers

-- the cell of the values of a field; `empty` is a cell without a value
abbrev pub field_tokens : List ℕ → AnyUnit → Option BaseType → Values → List Token
field_tokens empty unit None values = Text empty ∷ []
field_tokens empty unit (Some type) (Raw bytes) = Text empty ∷ []
field_tokens empty unit (Some type) (Numbers numbers) = known_tokens empty unit type numbers
