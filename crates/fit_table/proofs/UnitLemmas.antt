-- The units of all fields, by their numbers: for `unit`.
use Rattle.std.proofs.Common.{◌≡◌, ℕ, ◌+◌, ◌<◌, List, length, get_or, sym, ◌∙◌, subst, refl, inl, inr, arith}
use Rattle.std.specs.Prelude.{slice_set}
use Rattle.std.proofs.lemmas.Bool.{cases_lt}
use Rattle.std.proofs.lemmas.List.{get_or-set_same, get_or-set_other}

pub next_is : {X : Type 0} (f : ℕ → X) (xs : List X) (i k : ℕ) (y d : X) → ((n : ℕ) → n < k → get_or xs n d ≡ f n) → i ≡ k → k < length xs
    → y ≡ f k → (n : ℕ) → n < k + 1 → get_or (slice_set xs i y) n d ≡ f n
next_is f xs i k y d so_far here in_xs is n below =
    elim (cases_lt n k) [
      | inl before ↦ get_or-set_other xs i n y d (λ same. absurd (omega (arith, before, same, here))) ∙ so_far n before
      | inr at ↦
          let same : n ≡ k = omega (arith, below, at) in
          let equal : n ≡ i = omega (arith, below, at, here) in
          subst (λ (m : ℕ). get_or (slice_set xs i y) m d ≡ f n) (sym equal)
          (get_or-set_same xs i y d (omega (arith, here, in_xs)) ∙ is ∙ subst (λ (m : ℕ). f k ≡ f m) (sym same) refl)
    ]
