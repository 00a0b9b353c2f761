-- The text of a word, which may be any bytes.
use Rattle.std.specs.Prelude.{◌≡◌, ◌⊎◌, ℕ, false, List, [], ◌∷◌, ◌++◌, ◌==◌}
use Rattle.std.specs.List.{list_any}
use Rattle.std.specs.Str.{IsUtf8}

-- a text that is no path
abbrev pub EndsWithZero : List ℕ → Type 0
EndsWithZero text = (shown : List ℕ) × (text ≡ shown ++ 0 ∷ [])

-- a word of UTF-8 without a zero byte is its own text; the text of another is no path
pub record IsTextOf (word text : List ℕ) : Type 0 where
  pub of_text : IsUtf8 word → list_any (λ byte. byte == 0) word ≡ false → text ≡ word
  pub of_no_text : (IsUtf8 word × (text ≡ word)) ⊎ EndsWithZero text
