-- Powers of 256 as powers of 2, and a range as two halves: for `Signs` and `put`.
use Rattle.std.proofs.Common.{◌≡◌, ℕ, zero, suc, ◌+◌, ◌-◌, ◌*◌, ◌^◌, ◌≤◌, refl, sym, ap, ◌∙◌, arith, pow-suc, pow-add}

pub pow256 : (n : ℕ) → 256 ^ n ≡ 2 ^ (8 * n)
pow256 zero = refl
pow256 (suc n) =
    let e : 8 * suc n ≡ 8 * n + 8 = omega arith in
    pow-suc 256 n ∙ ap (λ (p : ℕ). p * 256) (pow256 n) ∙ sym (ap (λ (k : ℕ). 2 ^ k) e ∙ pow-add 2 (8 * n) 8)

-- the numbers of a size fall into two halves; those of the lower half have no sign
pub pow-halves : (size : ℕ) → 1 ≤ size → 2 ^ (8 * size) ≡ 2 ^ (8 * size - 1) + 2 ^ (8 * size - 1)
pow-halves size some =
    let e : 8 * size ≡ suc (8 * size - 1) = omega arith in
    let p : 2 ^ (8 * size - 1) * 2 ≡ 2 ^ (8 * size - 1) + 2 ^ (8 * size - 1) = omega arith in
    ap (λ (k : ℕ). 2 ^ k) e ∙ pow-suc 2 (8 * size - 1) ∙ p
