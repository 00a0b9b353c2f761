-- The list of a field's values, by index: `unsigned` reads its elements one by one. For crates that print a field.
use Rattle.std.proofs.Common.{◌≡◌, ℕ, zero, suc, ◌+◌, ◌*◌, ◌<◌, List, length, get_or, take, drop, refl, sym, ap, ◌∙◌, arith}
use Rattle.std.proofs.lemmas.List.{drop-drop}
use Rattle.fit_base.specs.declared.order.Arch.{Arch}
use Rattle.fit_base.specs.Number.{number}
use Rattle.fit_base.specs.Value.{Field, numbers, value_size, count_of, unsigned_at}

pub length-numbers : (arch : Arch) (size count : ℕ) (bytes : List ℕ) → length (numbers arch size count bytes) ≡ count
length-numbers arch size zero bytes = refl
length-numbers arch size (suc count) bytes = ap suc (length-numbers arch size count (drop size bytes))

pub get_or-numbers : (arch : Arch) (size count : ℕ) (bytes : List ℕ) (i : ℕ) → i < count
    → get_or (numbers arch size count bytes) i 0 ≡ number arch (take size (drop (i * size) bytes))
get_or-numbers arch size zero bytes i below = absurd (omega arith)
get_or-numbers arch size (suc count) bytes zero below =
    let e : 0 * size ≡ 0 = omega arith in rw e refl
get_or-numbers arch size (suc count) bytes (suc i) below =
    let ih = get_or-numbers arch size count (drop size bytes) i (omega arith) in
    let e2 : suc i * size ≡ size + i * size = omega arith in
    ih ∙ ap (λ xs. number arch (take size xs)) (drop-drop (i * size) size bytes ∙ ap (λ (k : ℕ). drop k bytes) (sym e2))

-- a field's list of values is as long as its count
pub length-numbers_of : (field : Field) → length (numbers field.arch (value_size field) (count_of field) field.bytes) ≡ count_of field
length-numbers_of field = length-numbers field.arch (value_size field) (count_of field) field.bytes

-- and it holds the value of each index
pub get_or-numbers_of : (field : Field) (i : ℕ) → i < count_of field
    → get_or (numbers field.arch (value_size field) (count_of field) field.bytes) i 0 ≡ unsigned_at field i
get_or-numbers_of field i below = get_or-numbers field.arch (value_size field) (count_of field) field.bytes i below
