-- A field of one value of a known type: for `put`.
use Rattle.std.proofs.Common.{◌≡◌, ℕ, ◌*◌, ◌≤◌, ℤ, ◌≤ℤ◌, List, length, take, drop, take_all, IsTrue, true, refl, ap, ◌∙◌, arith}
use Rattle.fit_base.specs.declared.order.Arch.{Arch}
use Rattle.fit_base.specs.declared.base.BaseType.{BaseType}
use Rattle.fit_base.specs.declared.base.BaseType.TheVariants.{Enum}
use Rattle.fit_base.specs.Number.{number, twos_complement, as_unsigned}
use Rattle.fit_base.specs.Base.{row_of, has_sign, least_of, greatest_of}
use Rattle.fit_base.specs.Value.{field_of, value_size, unsigned_at, signed_at}
use Rattle.fit_base.proofs.Signs.{twos_complement-as_unsigned}

pub value_size-field_of : (type : BaseType) (arch : Arch) (bytes : List ℕ) → value_size (field_of type arch bytes) ≡ (row_of type).size
value_size-field_of Enum arch bytes = refl
value_size-field_of _ arch bytes = refl

size_some : (type : BaseType) → 1 ≤ (row_of type).size
size_some Enum = omega arith
size_some _ = omega arith

first_whole : (arch : Arch) (bytes : List ℕ) (size : ℕ) → length bytes ≡ size
    → number arch (take size (drop (0 * size) bytes)) ≡ number arch bytes
first_whole arch bytes size len =
    let none : 0 * size ≡ 0 = omega arith in
    rw none (ap (number arch) (take_all size bytes (omega arith)))

-- its number is that of all its bytes
pub unsigned_at-field_of : (type : BaseType) (arch : Arch) (bytes : List ℕ) → length bytes ≡ (row_of type).size
    → unsigned_at (field_of type arch bytes) 0 ≡ number arch bytes
unsigned_at-field_of type arch bytes len =
    ap (λ (size : ℕ). number arch (take size (drop (0 * size) bytes))) (value_size-field_of type arch bytes)
    ∙ first_whole arch bytes (row_of type).size len

-- a value of a type with a sign is read back
pub as_unsigned-read : (type : BaseType) (value : ℤ) → IsTrue (has_sign type) → least_of type ≤ℤ value
    → value ≤ℤ greatest_of type → twos_complement (row_of type).size (as_unsigned (row_of type).size value) ≡ value
as_unsigned-read type value signed low high =
    let e : has_sign type ≡ true = signed in
    twos_complement-as_unsigned (row_of type).size value (size_some type) (rw e at low) (rw e at high)

pub signed_at-field_of : (type : BaseType) (arch : Arch) (bytes : List ℕ) (value : ℤ)
    → length bytes ≡ (row_of type).size → number arch bytes ≡ as_unsigned (row_of type).size value
    → IsTrue (has_sign type) → least_of type ≤ℤ value → value ≤ℤ greatest_of type → signed_at (field_of type arch bytes) 0 ≡ value
signed_at-field_of type arch bytes value len number_is signed low high =
    ap (λ (size : ℕ). twos_complement size (unsigned_at (field_of type arch bytes) 0)) (value_size-field_of type arch bytes)
    ∙ ap (twos_complement (row_of type).size) (unsigned_at-field_of type arch bytes len ∙ number_is)
    ∙ as_unsigned-read type value signed low high
