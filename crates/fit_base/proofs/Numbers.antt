-- The sums over bytes, as `byteorder` defines them and as the definition of a number does: for reading and `put`.
use Rattle.std.proofs.Common.{◌≡◌, ℕ, suc, ◌+◌, ◌*◌, ◌^◌, ◌<◌, List, [], ◌∷◌, ◌++◌, length, reverse, drop, append-nil, drop_of_length-le, le_refl, refl, sym, ap, ◌∙◌, arith, pow-suc}
use Rattle.std.proofs.lemmas.List.{reverse-append, length-reverse}
use Rattle.byteorder.specs.Endian.{big_number, little_number, big_bytes, little_bytes}
use Rattle.byteorder.specs.Numbers.{big_from-cons, little_from-cons, big_number-reads_back, little_number-reads_back, length-bytes_high_first, length-bytes_low_first}
use Rattle.fit_base.specs.Number.{low_first}

pub low_first-append : (xs ys : List ℕ) → low_first (xs ++ ys) ≡ low_first xs + 256 ^ length xs * low_first ys
low_first-append [] ys = omega arith
low_first-append (x ∷ xs) ys =
    let ih = low_first-append xs ys in
    let p : 256 ^ suc (length xs) ≡ 256 ^ length xs * 256 = pow-suc 256 (length xs) in
    rw (ih, p) (omega arith)

-- the low byte first, as `byteorder` reads it
pub low_first-little : (xs : List ℕ) → little_number (length xs) xs ≡ low_first xs
low_first-little [] = refl
low_first-little (x ∷ xs) =
    ap (λ (r : ℕ). x + 256 * r) (little_from-cons 0 (length xs) x xs ∙ low_first-little xs)

reverse-front : (x : ℕ) (xs : List ℕ) → reverse (x ∷ xs) ≡ reverse xs ++ x ∷ []
reverse-front x xs = reverse-append (x ∷ []) xs

-- the high byte first, as `byteorder` reads it
pub low_first-big : (xs : List ℕ) → big_number (length xs) xs ≡ low_first (reverse xs)
low_first-big [] = refl
low_first-big (x ∷ xs) =
    let ih = big_from-cons 0 (length xs) x xs ∙ low_first-big xs in
    let back = ap low_first (reverse-front x xs) ∙ low_first-append (reverse xs) (x ∷ []) in
    let len = length-reverse xs in
    ap (λ (r : ℕ). x * 256 ^ length xs + r) ih ∙ sym (back ∙ rw len (omega arith))

-- what is written over a whole list is its number
pub low_first-written : (n : ℕ) (old : List ℕ) → n < 256 ^ length old → low_first (little_bytes (length old) n ++ drop (length old) old) ≡ n
low_first-written n old fits =
    let len = length-bytes_low_first 0 (length old) n in
    let rest = drop_of_length-le old (le_refl (length old)) in
    ap (λ xs. low_first (little_bytes (length old) n ++ xs)) rest
    ∙ ap low_first (append-nil (little_bytes (length old) n))
    ∙ sym (low_first-little (little_bytes (length old) n))
    ∙ ap (λ (k : ℕ). little_number k (little_bytes (length old) n)) len
    ∙ ap (little_number (length old)) (sym (append-nil (little_bytes (length old) n)))
    ∙ little_number-reads_back (length old) n [] fits

pub high_first-written : (n : ℕ) (old : List ℕ) → n < 256 ^ length old
    → low_first (reverse (big_bytes (length old) n ++ drop (length old) old)) ≡ n
high_first-written n old fits =
    let len = length-bytes_high_first (length old) n in
    let rest = drop_of_length-le old (le_refl (length old)) in
    ap (λ xs. low_first (reverse (big_bytes (length old) n ++ xs))) rest
    ∙ ap (λ xs. low_first (reverse xs)) (append-nil (big_bytes (length old) n))
    ∙ sym (low_first-big (big_bytes (length old) n))
    ∙ ap (λ (k : ℕ). big_number k (big_bytes (length old) n)) len
    ∙ ap (big_number (length old)) (sym (append-nil (big_bytes (length old) n)))
    ∙ big_number-reads_back (length old) n [] fits
