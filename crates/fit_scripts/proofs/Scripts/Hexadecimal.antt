-- What the crate `hex` decodes is what a word spells: for `choices`.
use Rattle.std.proofs.Common.{◌≡◌, ℕ, ◌+◌, ◌*◌, ◌%◌, ◌==◌, List, [], ◌∷◌, length, Option, Some, None, Result, Ok, Err, refl, sym, ap, ◌∙◌, arith, true, false, Bool, if◌then◌else◌}
use Rattle.std.proofs.lemmas.Bool.{eqb-true}
use Rattle.std.specs.Result.{result_ok}
use Rattle.hex.specs.Hex.{decode_of, decode_pairs, digit_or_error, hex_digit_value, ◌>>=◌}
use Rattle.hex.specs.declared.error.FromHexError.{FromHexError}
use Rattle.hex.specs.declared.error.FromHexError.TheVariants.{OddLength}
use Rattle.fit_scripts.specs.Scripts.Hexadecimal.{hex_bytes, byte_before}

one_pair : (high low i : ℕ) (h l : Option ℕ) (rest : Result (List ℕ) FromHexError) →
    result_ok ((digit_or_error high i h >>= (λ a. digit_or_error low (i + 1) l >>= (λ b. Ok (a * 16 + b)))) >>= (λ byte. rest >>= (λ bytes. Ok (byte ∷ bytes))))
    ≡ byte_before h l (result_ok rest)
one_pair high low i None l rest = refl
one_pair high low i (Some h) None rest = refl
one_pair high low i (Some h) (Some l) (Ok bytes) = refl
one_pair high low i (Some h) (Some l) (Err fault) = refl

pub pairs_decoded : (i : ℕ) (word : List ℕ) → result_ok (decode_pairs i word) ≡ hex_bytes word
unfolding decode_pairs
pairs_decoded i [] = refl
pairs_decoded i (digit ∷ []) = refl
pairs_decoded i (high ∷ low ∷ digits) =
    one_pair high low i (hex_digit_value high) (hex_digit_value low) (decode_pairs (i + 2) digits)
    ∙ ap (byte_before (hex_digit_value high) (hex_digit_value low)) (pairs_decoded (i + 2) digits)

none_before : (h l : Option ℕ) → byte_before h l None ≡ None
none_before None l = refl
none_before (Some h) None = refl
none_before (Some h) (Some l) = refl

odd_spells_none : (word : List ℕ) → length word % 2 ≡ 1 → hex_bytes word ≡ None
odd_spells_none [] odd = cc
odd_spells_none (digit ∷ []) odd = refl
odd_spells_none (high ∷ low ∷ digits) odd =
    rw (odd_spells_none digits (omega arith)) (none_before (hex_digit_value high) (hex_digit_value low))

by_length : (word : List ℕ) (odd : Bool) → (odd ≡ true → length word % 2 ≡ 1) →
    result_ok (if odd then Err OddLength else decode_pairs 0 word) ≡ hex_bytes word
by_length word true is = sym (odd_spells_none word (is refl))
by_length word false is = pairs_decoded 0 word

pub decoded_of : (word : List ℕ) → result_ok (decode_of word) ≡ hex_bytes word
decoded_of word = by_length word (length word % 2 == 1) (λ odd. eqb-true (length word % 2) 1 odd)
