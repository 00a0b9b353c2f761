use Rattle.std.proofs.Common.{◌≡◌, ◌≤◌, ◌<◌, ◌+◌, ◌-◌, ◌*◌, ◌∙◌, ℕ, Bool, true, false, List, length, Some, None, refl, ap, sym, leb, arith, get_or, take, if◌then◌else◌}
use Rattle.std.proofs.lemmas.Bool.{leb-true, le-leb, lt-ltb, and_parts}
use Rattle.std.proofs.lemmas.Grind.{common_steps}
use Rattle.std.proofs.lemmas.Int.Digits.{digits_value_more}
use Rattle.std.proofs.lemmas.List.{take_all, take_more}
use Rattle.std.proofs.lemmas.List.Folds.{list_all-append}
use Rattle.std.proofs.lemmas.Str.{digit_value_digit}
use Rattle.std.proofs.lemmas.Str.Parse.{digits_value-take-le}
use Rattle.std.specs.Char.{is_ascii_digit, digit_value}
use Rattle.std.specs.List.{list_all}
use Rattle.std.specs.Str.Parse.{digits_value}
use Rattle.fit_scripts.specs.Scripts.Words.{is_numeral, decimal_number}
use Rattle.fit_scripts.proofs.script.number.number.Goals as goal

none_at : (b : Bool) (n : ℕ) → (b ≡ true → ⊥) → None ≡ (if b then Some n else None)
none_at true n bad = absurd (bad refl)
none_at false n bad = refl

-- a word whose number is too great
no_number : (most : ℕ) (word : List ℕ) → (digits_value 10 word ≤ most → ⊥) → None ≡ decimal_number most word
no_number most word bad =
    none_at _ (digits_value 10 word) (λ e. bad (leb-true _ _ (and_parts (is_numeral word) _ e).1))

a_number : (most : ℕ) (word : List ℕ) (n : ℕ) → 0 < length word → list_all is_ascii_digit word ≡ true →
    n ≡ digits_value 10 word → n ≤ most → Some n ≡ decimal_number most word
a_number most word n some digits is small =
    rw (lt-ltb 0 (length word) some, digits, ← is, le-leb n most small) refl

digits_more : (word : List ℕ) (i : ℕ) → i < length word → is_ascii_digit (get_or word i 0) ≡ true →
    list_all is_ascii_digit (take i word) ≡ true → list_all is_ascii_digit (take (i + 1) word) ≡ true
digits_more word i within digit digits =
    rw (take_more word i 0 within, list_all-append is_ascii_digit (take i word), digits, digit) refl

sub_back : (byte value : ℕ) → value + 48 ≡ byte → byte - 48 ≡ value
sub_back byte value e = omega arith

-- the value of an ASCII digit
value_at : (byte : ℕ) → is_ascii_digit byte ≡ true → byte - 48 ≡ digit_value byte
value_at byte digit =
    let range = and_parts (leb 48 byte) (leb byte 57) digit in
    sub_back byte (digit_value byte) (digit_value_digit byte (leb-true 48 byte range.0, leb-true byte 57 range.1))

value_more : (word : List ℕ) (i value : ℕ) → i < length word → is_ascii_digit (get_or word i 0) ≡ true → value ≡ digits_value 10 (take i word) →
    value * 10 + (get_or word i 0 - 48) ≡ digits_value 10 (take (i + 1) word)
value_more word i value within digit is =
    rw (digits_value_more 10 word i within, ← is) (ap (λ d. value * 10 + d) (value_at (get_or word i 0) digit))

pub loop-byte-preserved : goal.loop-byte-preserved
loop-byte-preserved c = record {
  value = rw c.from.ensures (value_more c.args.word.now c.loop-byte.byte-index c.loop-byte.value (omega arith)
      (sym c.is_ascii_digit.ensures.value ∙ c.if-not-is_ascii_digit.false) c.loop-byte.invariant.value);
  most = omega arith;
  digits = digits_more c.args.word.now c.loop-byte.byte-index (omega arith)
      (sym c.is_ascii_digit.ensures.value ∙ c.if-not-is_ascii_digit.false) c.loop-byte.invariant.digits;
}

pub returns-then-value-from-clause-value : goal.returns-then-value-from-clause-value
returns-then-value-from-clause-value c =
    let word = c.args.word.now in
    let i = c.loop-byte.byte-index in
    let more : c.loop-byte.value * 10 + (get_or word i 0 - 48) ≡ digits_value 10 (take (i + 1) word) =
    value_more word i c.loop-byte.value (omega arith) (sym c.is_ascii_digit.ensures.value ∙ c.if-not-is_ascii_digit.false)
    c.loop-byte.invariant.value in
    let least = digits_value-take-le 10 word (i + 1) (omega arith) in
    no_number c.args.most word (λ small. omega (arith, more, least, c.from.ensures, c.from-in-loop-byte.ensures))

pub returns-clause-value : goal.returns-clause-value
returns-clause-value c =
    let word = c.args.word.now in
    let all : take c.loop-byte.byte-index word ≡ word = take_all _ _ (omega arith) in
    let digits = rw all at c.loop-byte.invariant.digits in
    let value = rw all at c.loop-byte.invariant.value in
    a_number c.args.most word c.loop-byte.value (grind (arith, common_steps)) digits value c.loop-byte.invariant.most
