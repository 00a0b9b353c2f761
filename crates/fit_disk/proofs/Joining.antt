-- Which places are outside of the ranges after one is added.
use Rattle.std.proofs.Common.{◌≡◌, ℕ, Bool, true, false, ◌&&◌, List, [], ◌∷◌, ◌++◌, refl, sym, ◌∙◌, ap}
use Rattle.fit_disk.specs.Cycle.{is_beside, is_outside}

and_swap : (a b c : Bool) → (a && (b && c)) ≡ (b && (a && c))
and_swap true b c = refl
and_swap false true c = refl
and_swap false false c = refl

and_group : (a b c : Bool) → ((a && b) && c) ≡ (a && (b && c))
and_group true b c = refl
and_group false b c = refl

-- one more range, at either end
pub outside_push : (place : ℕ) (ranges : List (ℕ × ℕ)) (range : ℕ × ℕ)
    → is_outside place (ranges ++ range ∷ []) ≡ is_outside place (range ∷ ranges)
outside_push place [] range = refl
outside_push place (first ∷ ranges) range = ap (λ rest. is_beside place first && rest) (outside_push place ranges range) ∙ and_swap (is_beside place first) (is_beside place range) (is_outside place ranges)

-- the last range, joined with a new one
pub outside_joined : (place : ℕ) (ranges : List (ℕ × ℕ)) (last range both : ℕ × ℕ)
    → is_beside place both ≡ (is_beside place range && is_beside place last)
    → is_outside place (ranges ++ both ∷ []) ≡ is_outside place (range ∷ (ranges ++ last ∷ []))
outside_joined place ranges last range both joined =
    outside_push place ranges both
    ∙ ap (λ beside. beside && is_outside place ranges) joined
    ∙ and_group (is_beside place range) (is_beside place last) (is_outside place ranges)
    ∙ sym (ap (λ rest. is_beside place range && rest) (outside_push place ranges last))
