use Rattle.std.proofs.Common.{◌≡◌, ◌≤◌, ◌==◌, ℕ, Bool, true, false, ltb, not, List, length, Some, None, refl, sym, arith, ◌∙◌, if◌then◌else◌}
use Rattle.std.proofs.lemmas.Bool.{ltb-false}
use Rattle.std.proofs.lemmas.List.Sums.{prefix_len-le-length}
use Rattle.std.specs.List.{position, position_or_len}
use Rattle.fit_scripts.proofs.script.sample.key_len.Goals as goal

found_at : (b : Bool) (n at : ℕ) → (if b then Some n else None) ≡ Some at → at ≡ n
found_at true n at e = cc
found_at false n at e = cc

none_found : (b : Bool) (n : ℕ) → (if b then Some n else None) ≡ None → b ≡ false
none_found true n e = cc
none_found false n e = refl

first_within : (p : ℕ → Bool) (xs : List ℕ) → position_or_len p xs ≤ length xs
first_within p xs = prefix_len-le-length (λ x. not (p x)) xs

found : (p : ℕ → Bool) (xs : List ℕ) (at : ℕ) → position p xs ≡ Some at → (at ≡ position_or_len p xs) × (at ≤ length xs)
found p xs at e =
    let is : at ≡ position_or_len p xs = found_at (ltb (position_or_len p xs) (length xs)) (position_or_len p xs) at e in
    (is, omega (arith, is, first_within p xs))

not_found : (p : ℕ → Bool) (xs : List ℕ) → position p xs ≡ None → length xs ≡ position_or_len p xs
not_found p xs e =
    let past = ltb-false _ _ (none_found (ltb (position_or_len p xs) (length xs)) (position_or_len p xs) e) in
    omega (arith, past, first_within p xs)

pub returns-in-Some : goal.returns-in-Some
returns-in-Some c =
    let is = found (λ byte. byte == 61) c.args.setting.now c.in-Some.at (sym c.equals_at.ensures ∙ c.in-Some.is) in
    record { value = is.0; within = is.1 }

pub returns-in-None : goal.returns-in-None
returns-in-None c = record {
  value = not_found (λ byte. byte == 61) c.args.setting.now (sym c.equals_at.ensures ∙ c.in-None.is);
  within = omega arith;
}
