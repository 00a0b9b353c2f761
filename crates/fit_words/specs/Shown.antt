-- A word of the command line as a message shows it.
use Rattle.std.specs.Prelude.{ℕ, Bool, true, not, List, [], ◌∷◌, ◌++◌, ◌/◌, ◌%◌, codes, ◌==◌, ◌||◌, if◌then◌else◌}
use Rattle.std.specs.Char.{is_control, encode_utf8}
use Rattle.std.specs.Fmt.{digit_glyph}
use Rattle.std.specs.Int.{is_in_range}
use Rattle.std.specs.List.{flat_map}
use Rattle.std.specs.Str.{chars}

-- a character that ends a line, is invisible, or turns the direction of the text
abbrev pub is_format : ℕ → Bool
is_format c =
    c == 0x61C || c == 0x200B || is_in_range 0x200E 0x200F c || is_in_range 0x2028 0x202E c
    || is_in_range 0x2060 0x206F c || c == 0xFEFF

-- a character that comes as it is
abbrev pub is_shown : ℕ → Bool
is_shown c = not (is_control c || is_format c)

-- a byte by its number, such as `\x1B`
abbrev pub byte_text : ℕ → List ℕ
byte_text byte = codes "\\x" ++ digit_glyph true (byte / 16) ∷ digit_glyph true (byte % 16) ∷ []

-- a character, or each of its bytes by its number; nothing for a zero byte, which marks the text of a word that is no UTF-8
unfoldable pub character_text : ℕ → List ℕ
character_text c =
    if c == 0 then [] else
    if is_shown c then encode_utf8 c else flat_map byte_text (encode_utf8 c)

-- a word as it is shown
unfoldable pub shown_text : List ℕ → List ℕ
shown_text word = flat_map character_text (chars word)
