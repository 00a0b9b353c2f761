-- Digits that are placed from the last one on: for `number`.
use Rattle.std.proofs.Common.{◌≡◌, ℕ, zero, suc, ◌+◌, ◌-◌, ◌/◌, ◌%◌, ◌<◌, ◌≤◌, List, [], ◌∷◌, ◌++◌, append_assoc, length, take, drop, refl, sym, ap, ◌∙◌, arith}
use Rattle.std.specs.Prelude.{slice_set}
use Rattle.fit_table.specs.Number.{digits}

pub placed : (bytes : List ℕ) (at count digit : ℕ) → at < count → count ≤ length bytes →
    drop at (take count (slice_set bytes at digit)) ≡ digit ∷ drop (suc at) (take count bytes)
placed [] at count digit before room = absurd (omega (arith, before, room))
placed (byte ∷ bytes) at zero digit before room = absurd (omega (arith, before))
placed (byte ∷ bytes) zero (suc count) digit before room = refl
placed (byte ∷ bytes) (suc at) (suc count) digit before room = placed bytes at count digit (omega (arith, before)) (omega (arith, room))

pub next_digit : (bytes : List ℕ) (at count n : ℕ) (all : List ℕ) → 0 < at → at ≤ count → count ≤ length bytes →
    digits at n ++ drop at (take count bytes) ≡ all →
    digits (at - 1) (n / 10) ++ drop (at - 1) (take count (slice_set bytes (at - 1) (48 + n % 10))) ≡ all
next_digit bytes zero count n all some within room is = absurd (omega (arith, some))
next_digit bytes (suc at) count n all some within room is =
    let one : suc at - 1 ≡ at = omega arith in
    rw one (ap (λ rest. digits at (n / 10) ++ rest) (placed bytes at count (48 + n % 10) (omega (arith, within)) room)
    ∙ sym (append_assoc (digits at (n / 10)) ((48 + n % 10) ∷ []) (drop (suc at) (take count bytes))) ∙ is)
