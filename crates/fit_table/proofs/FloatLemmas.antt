-- Which bits are those of a NaN, and what is put of a float: for `float`.
use Rattle.std.proofs.Common.{◌≡◌, ℕ, ◌*◌, ◌<◌, ◌≤◌, ◌%◌, Bool, true, false, List, [], ◌∷◌, Some, None, Result, refl, sym, ◌∙◌, append-nil, if◌then◌else◌, from_bits, lt-ltb, subst}
use Rattle.std.specs.Float.{Float, Format, nan, inf, fin, float_is_finite, NotNanBits}
use lib.Arith.{le→nltb}
use lib.Ieee.{ones, hid, top, is_nan}
use lib.Ieee.Bits.{nan_bits_is, nan_bits_above}
use lib.Dec.{T}
use mathlib.Core.Bool.{not}
use Rattle.fit_text.specs.Pen.{Written, Puts}
use Rattle.fit_table.specs.Tokens.{Text, Digits, IsDecimalOf, PutsTokens, float_tokens}
use Rattle.fit_table.proofs.TokenLemmas.{tokens_all, tokens_text}

nan_not_finite : (x : Float) → is_nan x ≡ true → float_is_finite x ≡ false
unfolding is_nan float_is_finite
nan_not_finite nan e = refl
nan_not_finite (inf s) e = cc
nan_not_finite (fin s m x) e = cc

pub no_float : (f : Format) (bits : ℕ) → ones f * hid f < bits % top f →
    None ≡ (if float_is_finite (from_bits f bits) then Some (from_bits f bits) else None)
no_float f bits above =
    let is : is_nan (from_bits f bits) ≡ true = sym (nan_bits_is f bits) ∙ nan_bits_above f bits ∙ lt-ltb _ _ above in
    let no : float_is_finite (from_bits f bits) ≡ false = nan_not_finite _ is in
    rw no refl

pub is_float : (f : Format) (bits : ℕ) → bits % top f ≤ ones f * hid f → NotNanBits f bits
is_float f bits below = subst (λ (b : Bool). T (not b)) (sym (nan_bits_above f bits)) (le→nltb _ _ below)

-- ---- what is put

decimal_by : {A E : Type 0} {o n : Written} {r : Result A E} (f : Format) (bits : ℕ) (x : Float) (none : List ℕ) (b : Bool) →
    Some x ≡ (if b then Some (from_bits f bits) else None) → (text : List ℕ) × IsDecimalOf f x text × Puts o n r text →
    PutsTokens o n r (if b then Digits f bits ∷ [] else Text none ∷ [])
decimal_by f bits x none true e h =
    let same : x ≡ from_bits f bits = cc in
    let P : Float → Type 0 = λ y. IsDecimalOf f y h.0 in
    tokens_all h.0 (h.0, [], subst P same h.1, refl, sym (append-nil h.0)) h.2
decimal_by f bits x none false e h = cc

pub decimal_put : {A E : Type 0} {o n : Written} {r : Result A E} (f : Format) (bits : ℕ) (x : Float) (none : List ℕ) →
    Some x ≡ (if float_is_finite (from_bits f bits) then Some (from_bits f bits) else None) →
    (text : List ℕ) × IsDecimalOf f x text × Puts o n r text → PutsTokens o n r (float_tokens none f bits)
decimal_put f bits x none e h = decimal_by f bits x none (float_is_finite (from_bits f bits)) e h

none_by : {A E : Type 0} {o n : Written} {r : Result A E} (f : Format) (bits : ℕ) (none : List ℕ) (b : Bool) →
    None ≡ (if b then Some (from_bits f bits) else None) → Puts o n r none →
    PutsTokens o n r (if b then Digits f bits ∷ [] else Text none ∷ [])
none_by f bits none true e h = cc
none_by f bits none false e h = tokens_text h

pub none_put : {A E : Type 0} {o n : Written} {r : Result A E} (f : Format) (bits : ℕ) (none : List ℕ) →
    None ≡ (if float_is_finite (from_bits f bits) then Some (from_bits f bits) else None) → Puts o n r none →
    PutsTokens o n r (float_tokens none f bits)
none_put f bits none e h = none_by f bits none (float_is_finite (from_bits f bits)) e h
