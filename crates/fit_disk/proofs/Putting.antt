-- A write into a buffer is a write into the file that is the buffer's front.
use Rattle.std.proofs.Common.{◌≡◌, ◌⊎◌, inl, inr, ℕ, ◌+◌, ◌-◌, ◌<◌, ◌≤◌, max, List, length, take, get_or, sym, ◌∙◌, arith}
use Rattle.std.proofs.lemmas.Bool.{cases_lt}
use Rattle.std.proofs.lemmas.List.{ext_get_or, length-take, get_or-take}
use Rattle.fit_disk.specs.Content.{over}
use Rattle.fit_disk.proofs.Leaving.{length-over, over_before, over_inside, over_after}

module _ (at len : ℕ) (bytes old : List ℕ) (fits : len ≤ length old) (within : at ≤ len) (room : at + length bytes ≤ length old) where
  size : length (take len old) ≡ len
  size = omega (arith, length-take len old)

  in_old : at ≤ length old
  in_old = omega arith

  in_front : at ≤ length (take len old)
  in_front = omega (arith, size)

  same : (i : ℕ) → i < max len (at + length bytes) → get_or (over at bytes old) i 0 ≡ get_or (over at bytes (take len old)) i 0
  same i low = by_place (cases_lt i at) (cases_lt i (at + length bytes))
    where
      by_place : (i < at) ⊎ (at ≤ i) → (i < at + length bytes) ⊎ (at + length bytes ≤ i) → get_or (over at bytes old) i 0 ≡ get_or (over at bytes (take len old)) i 0
      by_place (inl front) _ = over_before at bytes old i in_old front ∙ sym (over_before at bytes (take len old) i in_front front ∙ get_or-take len old i 0 (omega arith))
      by_place (inr after) (inl inside) =
          let here : at + (i - at) ≡ i = omega arith in
          let equal : get_or (over at bytes old) (at + (i - at)) 0 ≡ get_or (over at bytes (take len old)) (at + (i - at)) 0 = over_inside at bytes old (i - at) in_old (omega arith) ∙ sym (over_inside at bytes (take len old) (i - at) in_front (omega arith)) in
          rw (← here) equal
      by_place (inr _) (inr after) = over_after at bytes old i in_old after ∙ sym (over_after at bytes (take len old) i in_front after ∙ get_or-take len old i 0 (omega arith))

  pub put_over : take (max len (at + length bytes)) (over at bytes old) ≡ over at bytes (take len old)
  put_over =
      ext_get_or 0 (take (max len (at + length bytes)) (over at bytes old)) (over at bytes (take len old))
      (omega (arith, length-take (max len (at + length bytes)) (over at bytes old), length-over at bytes old in_old, length-over at bytes (take len old) in_front, size))
      (λ i low. let below : i < max len (at + length bytes) = omega (arith, low, length-take (max len (at + length bytes)) (over at bytes old)) in
      get_or-take (max len (at + length bytes)) (over at bytes old) i 0 below ∙ same i below)

pub cut_front : (len n : ℕ) (xs : List ℕ) → len ≤ n → n ≤ length xs → take len (take n xs) ≡ take len xs
cut_front len n xs within fits =
    ext_get_or 0 (take len (take n xs)) (take len xs)
    (omega (arith, length-take len (take n xs), length-take n xs, length-take len xs))
    (λ i low. let below : i < len = omega (arith, low, length-take len (take n xs)) in
    get_or-take len (take n xs) i 0 below ∙ get_or-take n xs i 0 (omega arith) ∙ sym (get_or-take len xs i 0 below))
