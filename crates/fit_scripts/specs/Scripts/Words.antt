-- The words of a script's line, and the words that are numbers.
use Rattle.std.specs.Prelude.{ℕ, ◌+◌, ℤ, pos, neg_ℤ, Bool, List, [], ◌∷◌, length, Option, Some, None, option_map, ◌==◌, ◌&&◌, ◌||◌, not, nat_le, nat_lt, if◌then◌else◌}
use Rattle.std.specs.Char.{is_ascii_digit}
use Rattle.std.specs.List.{filter, list_all, slice_split}
use Rattle.std.specs.Str.Parse.{digits_value}
use Rattle.fit_base.specs.Number.{as_unsigned}
use Rattle.fit_base.specs.declared.base.BaseType.{BaseType}
use Rattle.fit_base.specs.declared.base.BaseType.TheVariants.{Sint8, Uint8, Sint16, Uint16, Sint32, Uint32}

-- a space or a tab
abbrev pub is_blank : ℕ → Bool
is_blank byte = byte == 32 || byte == 9

-- the parts of a line between blanks that are not empty
abbrev pub words : List ℕ → List (List ℕ)
words line = filter (λ word. not (length word == 0)) (slice_split is_blank line)

-- one decimal digit or more, and nothing else
abbrev pub is_numeral : List ℕ → Bool
is_numeral word = nat_lt 0 (length word) && list_all is_ascii_digit word

-- the number that a word is, if it is at most `most`
abbrev pub decimal_number : ℕ → List ℕ → Option ℕ
decimal_number most word =
    if is_numeral word && nat_le (digits_value 10 word) most
    then Some (digits_value 10 word) else None

-- the same, or with a `-` in front a number down to -(`most` + 1)
abbrev pub signed_number : ℕ → List ℕ → Option ℤ
signed_number most [] = None
signed_number most (byte ∷ bytes) =
    if byte == 45
    then option_map (λ n. neg_ℤ (pos n)) (decimal_number (most + 1) bytes)
    else option_map pos (decimal_number most (byte ∷ bytes))

-- the unsigned number of the bytes of a base type for a word, if the word is a number in its range
abbrev pub number_as : BaseType → List ℕ → Option ℕ
number_as Sint8 word = option_map (as_unsigned 1) (signed_number 127 word)
number_as Uint8 word = decimal_number 255 word
number_as Sint16 word = option_map (as_unsigned 2) (signed_number 32767 word)
number_as Uint16 word = decimal_number 65535 word
number_as Sint32 word = option_map (as_unsigned 4) (signed_number 2147483647 word)
number_as Uint32 word = decimal_number 4294967295 word
number_as _ word = None
