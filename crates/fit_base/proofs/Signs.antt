-- Two's complement, and the number that is read with it: for `with_sign` and `put`.
use Rattle.std.proofs.Common.{◌≡◌, ℕ, suc, ◌+◌, ◌-◌, ◌*◌, ◌^◌, ◌<◌, ◌≤◌, ℤ, pos, negsuc, neg_ℤ, ◌-ℤ◌, ◌≤ℤ◌, true, false, nat_lt, if◌then◌else◌, refl, ◌∙◌, arith, w64, to_z, of_z}
use Rattle.std.proofs.lemmas.Int.{ints}
use Rattle.std.proofs.lemmas.Bool.Decides.{nat_tests}
use Rattle.std.proofs.lemmas.Nat.{pow_pos}
use Rattle.fit_base.specs.Number.{twos_complement, as_unsigned}
use Rattle.fit_base.proofs.Powers.{pow-halves}

below_half : (n half whole : ℕ) → n < half → (if nat_lt n half then pos n else pos n -ℤ pos whole) ≡ pos n
below_half n half whole below = let e : nat_lt n half ≡ true = grind (arith, nat_tests) in rw e refl

pub above_half : (n half whole : ℕ) → half ≤ n → (if nat_lt n half then pos n else pos n -ℤ pos whole) ≡ pos n -ℤ pos whole
above_half n half whole above = let e : nat_lt n half ≡ false = grind (arith, nat_tests) in rw e refl

-- a value that fits its size is read back
pub twos_complement-as_unsigned : (size : ℕ) (value : ℤ) → 1 ≤ size → neg_ℤ (pos (2 ^ (8 * size - 1))) ≤ℤ value
    → value ≤ℤ pos (2 ^ (8 * size - 1) - 1) → twos_complement size (as_unsigned size value) ≡ value
twos_complement-as_unsigned size (pos n) some low high =
    let room = pow_pos (8 * size - 1) in
    below_half n (2 ^ (8 * size - 1)) (2 ^ (8 * size)) (omega (arith, ints))
twos_complement-as_unsigned size (negsuc m) some low high =
    let halves = pow-halves size some in
    let room : suc m ≤ 2 ^ (8 * size - 1) = omega (arith, ints) in
    above_half (2 ^ (8 * size) - suc m) (2 ^ (8 * size - 1)) (2 ^ (8 * size)) (omega arith) ∙ omega (arith, ints)

-- what the code computes for a number in the upper half
pub less_twice : (n half : ℕ) → half ≤ 2 ^ 63 → half ≤ n → n < half + half
    → to_z w64 (of_z w64 (to_z w64 (of_z w64 (pos 0 -ℤ to_z w64 (half - 1 - (n - half)))) -ℤ pos 1)) ≡ pos n -ℤ pos (half + half)
less_twice n half fits above below = omega (arith, ints)
