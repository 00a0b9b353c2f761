-- Bytes in the middle of others, which are lent and come back changed.
use Rattle.std.proofs.Common.{◌≡◌, ℕ, ◌+◌, ◌-◌, ◌≤◌, List, ◌++◌, length, take, drop, refl, sym, ap, ◌∙◌, arith, append_assoc, append-nil, length-append}
use Rattle.std.proofs.Math.Seq.{take-append_seam, drop-append_seam, take-length, drop-length}
use Rattle.std.proofs.lemmas.List.{length-take-le, length-drop}

pub take_there : (front rest bytes : List ℕ) (at : ℕ) → bytes ≡ front ++ rest → at ≡ length front → take at bytes ≡ front
take_there front rest bytes at joined long =
    ap (λ (n : ℕ). take n bytes) long ∙ ap (take (length front)) joined ∙ take-append_seam front rest

pub drop_there : (front rest bytes : List ℕ) (at : ℕ) → bytes ≡ front ++ rest → at ≡ length front → drop at bytes ≡ rest
drop_there front rest bytes at joined long =
    ap (λ (n : ℕ). drop n bytes) long ∙ ap (drop (length front)) joined ∙ drop-append_seam front rest

-- what is lent
pub lent_there : (front mid rest bytes : List ℕ) (at count : ℕ) → bytes ≡ front ++ (mid ++ rest) → at ≡ length front → count ≡ length mid
    → take count (drop at bytes) ≡ mid
lent_there front mid rest bytes at count joined long size =
    ap (take count) (drop_there front (mid ++ rest) bytes at joined long) ∙ take_there mid rest (mid ++ rest) count refl size

-- the bytes after it came back
pub back_there : (front mid new rest bytes : List ℕ) (at count : ℕ) → bytes ≡ front ++ (mid ++ rest) → at ≡ length front → count ≡ length mid
    → take at bytes ++ (new ++ drop count (drop at bytes)) ≡ front ++ (new ++ rest)
back_there front mid new rest bytes at count joined long size =
    ap (λ (l : List ℕ). l ++ (new ++ drop count (drop at bytes))) (take_there front (mid ++ rest) bytes at joined long)
    ∙ ap (λ (l : List ℕ). front ++ (new ++ l))
    (ap (drop count) (drop_there front (mid ++ rest) bytes at joined long) ∙ drop_there mid rest (mid ++ rest) count refl size)

-- all from one place on
pub lent_end : (bytes : List ℕ) (at : ℕ) → take (length bytes - at) (drop at bytes) ≡ drop at bytes
lent_end bytes at = ap (λ (n : ℕ). take n (drop at bytes)) (sym (length-drop at bytes)) ∙ take-length (drop at bytes)

pub back_end : (bytes new : List ℕ) (at : ℕ) → take at bytes ++ (new ++ drop (length bytes - at) (drop at bytes)) ≡ take at bytes ++ new
back_end bytes new at =
    ap (λ (l : List ℕ). take at bytes ++ (new ++ l))
    (ap (λ (n : ℕ). drop n (drop at bytes)) (sym (length-drop at bytes)) ∙ drop-length (drop at bytes))
    ∙ ap (λ (l : List ℕ). take at bytes ++ l) (append-nil new)

-- the bytes up to the end of what came back, and those after it
joined_back : (bytes new : List ℕ) (at count : ℕ)
    → take at bytes ++ (new ++ drop count (drop at bytes)) ≡ (take at bytes ++ new) ++ drop count (drop at bytes)
joined_back bytes new at count = sym (append_assoc (take at bytes) new (drop count (drop at bytes)))

size_back : (bytes new : List ℕ) (at size : ℕ) → at + size ≤ length bytes → length new ≡ size → at + size ≡ length (take at bytes ++ new)
size_back bytes new at size within is =
    omega (arith, within, is, length-append (take at bytes) new, length-take-le at bytes (omega (arith, within)))

pub front_back : (bytes new : List ℕ) (at count size : ℕ) → at + size ≤ length bytes → length new ≡ size
    → take (at + size) (take at bytes ++ (new ++ drop count (drop at bytes))) ≡ take at bytes ++ new
front_back bytes new at count size within is =
    take_there (take at bytes ++ new) (drop count (drop at bytes)) _ (at + size) (joined_back bytes new at count) (size_back bytes new at size within is)

pub rest_back : (bytes new : List ℕ) (at count size : ℕ) → at + size ≤ length bytes → length new ≡ size
    → drop (at + size) (take at bytes ++ (new ++ drop count (drop at bytes))) ≡ drop count (drop at bytes)
rest_back bytes new at count size within is =
    drop_there (take at bytes ++ new) (drop count (drop at bytes)) _ (at + size) (joined_back bytes new at count) (size_back bytes new at size within is)

pub long_back : (bytes new : List ℕ) (at count : ℕ) → at + count ≤ length bytes → length new ≡ count
    → length (take at bytes ++ (new ++ drop count (drop at bytes))) ≡ length bytes
long_back bytes new at count within is =
    omega (
      arith,
      within,
      is,
      length-append (take at bytes) (new ++ drop count (drop at bytes)),
      length-append new (drop count (drop at bytes)),
      length-take-le at bytes (omega (arith, within)),
      length-drop count (drop at bytes),
      length-drop at bytes,
    )

pub lent_length : (bytes : List ℕ) (at count : ℕ) → at + count ≤ length bytes → length (take count (drop at bytes)) ≡ count
lent_length bytes at count within = length-take-le count (drop at bytes) (omega (arith, within, length-drop at bytes))
