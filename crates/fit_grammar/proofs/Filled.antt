-- An array that a loop fills, one element after another: for frozen definitions.
use Rattle.std.proofs.Common.{◌≡◌, ℕ, suc, ◌+◌, ◌<◌, ◌≤◌, List, [], ◌∷◌, ◌++◌, length, take, get_or, sym, ap, ◌∙◌, subst, inl, inr, arith}
use Rattle.std.specs.Prelude.{slice_set}
use Rattle.std.proofs.Math.Seq.{take-suc}
use Rattle.std.proofs.lemmas.Bool.{cases_lt}
use Rattle.std.proofs.lemmas.List.{take_more_set, take_all, get_or-set_same, get_or-set_other}

pub next_filled : {X : Type 0} (xs ys : List X) (k : ℕ) (y d : X) → take k xs ≡ take k ys → k < length xs → k < length ys
    → y ≡ get_or ys k d → take (k + 1) (slice_set xs k y) ≡ take (k + 1) ys
next_filled xs ys k y d so_far in_xs in_ys is =
    let next : suc k ≡ k + 1 = omega arith in
    take_more_set xs k y in_xs ∙ ap (λ front. front ++ y ∷ []) so_far ∙ ap (λ one. take k ys ++ one ∷ []) is
    ∙ sym (take-suc ys k d in_ys) ∙ ap (λ n. take n ys) next

pub all_filled : {X : Type 0} (xs ys : List X) (k : ℕ) → take k xs ≡ take k ys → length xs ≤ k → length ys ≤ k → xs ≡ ys
all_filled xs ys k so_far in_xs in_ys = sym (take_all k xs in_xs) ∙ so_far ∙ take_all k ys in_ys

pub all_set : {X : Type 0} (P : X → Type 0) (xs : List X) (k : ℕ) (y d : X) → ((i : ℕ) → i < k → P (get_or xs i d)) → k < length xs → P y
    → (i : ℕ) → i < k + 1 → P (get_or (slice_set xs k y) i d)
all_set P xs k y d so_far in_xs one i below =
    elim (cases_lt i k) [
      | inl before ↦ subst P (sym (get_or-set_other xs k i y d (λ same. absurd (omega (arith, before, same))))) (so_far i before)
      | inr at ↦
          let same : i ≡ k = omega (arith, below, at) in
          subst (λ (n : ℕ). P (get_or (slice_set xs k y) n d)) (sym same) (subst P (sym (get_or-set_same xs k y d in_xs)) one)
    ]
