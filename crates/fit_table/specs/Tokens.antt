-- Text with floats in it: a float is a decimal that reads back as it.
use Rattle.std.specs.Prelude.{◌≡◌, ℕ, ◌≤◌, List, [], ◌∷◌, ◌++◌, length, Option, Some, Result, OnOk, from_bits, if◌then◌else◌}
use Rattle.std.specs.Float.{Float, Format, binary32, binary64, float_is_finite}
use Rattle.ryu.specs.Parse.{parse_float}
use Rattle.ryu.specs.Plain.{IsPlainNumber, IsLaidOutNumber}
use Rattle.fit_grammar.specs.Calls.Output.{WritesText}
use Rattle.fit_text.specs.Pen.{Written, Puts}

-- a text, or a decimal of the float that has these bits
pub data Token : Type 0 where
  Text : List ℕ → Token
  Digits : Format → ℕ → Token

-- ---- the decimal of a float

-- an exponent is written for more digits in front of the point than this, or more zeros after it
abbrev pub whole_digits : Format → ℕ
whole_digits binary32 = 13
whole_digits binary64 = 16

abbrev pub leading_zeros : Format → ℕ
leading_zeros binary32 = 5
leading_zeros binary64 = 4

-- a number as JSON writes it, which reads back as this float
pub record IsDecimal (f : Format) (whole zeros : ℕ) (x : Float) (text : List ℕ) : Type 0 where
  pub reads : parse_float f text ≡ Some x
  pub plain : IsPlainNumber text
  pub layout : IsLaidOutNumber whole zeros text
  pub short : length text ≤ 25

abbrev pub IsDecimalOf : Format → Float → List ℕ → Type 0
IsDecimalOf f x text = IsDecimal f (whole_digits f) (leading_zeros f) x text

-- the decimal of a finite float; a NaN and an infinity are written as `none`
abbrev pub float_tokens : List ℕ → Format → ℕ → List Token
float_tokens none f bits =
    if float_is_finite (from_bits f bits) then Digits f bits ∷ [] else Text none ∷ []

-- ---- the texts of tokens

abbrev pub IsTokenText : Token → List ℕ → Type 0
IsTokenText (Text own) text = text ≡ own
IsTokenText (Digits f bits) text = IsDecimalOf f (from_bits f bits) text

-- the texts of the tokens, one after another
abbrev pub IsTextOf : List Token → List ℕ → Type 0
IsTextOf [] text = text ≡ []
IsTextOf (token ∷ tokens) text =
    (own : List ℕ) × (rest : List ℕ) × IsTokenText token own × IsTextOf tokens rest
    × (text ≡ own ++ rest)

-- the text of the tokens in front, which are all of them at Ok, was put; at Err a prefix of it was handed over
pub record PutsTokens {T E : Type 0} (old new : Written) (result : Result T E)
    (tokens : List Token) : Type 0 where
  pub front : List Token
  pub back : List Token
  pub split : tokens ≡ front ++ back
  pub whole : OnOk result (back ≡ [])
  pub text : List ℕ
  pub is : IsTextOf front text
  pub puts : Puts old new result text

-- the same of what a writer contains
pub record WritesTokens {T E : Type 0} (old new : Option (List ℕ)) (result : Result T E)
    (tokens : List Token) : Type 0 where
  pub front : List Token
  pub back : List Token
  pub split : tokens ≡ front ++ back
  pub whole : OnOk result (back ≡ [])
  pub text : List ℕ
  pub is : IsTextOf front text
  pub writes : WritesText old new result text
