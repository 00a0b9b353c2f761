-- The one value of a field.
use Rattle.std.proofs.Common.{◌≡◌, ◌≢◌, ℕ, zero, suc, ◌*◌, ◌/◌, ◌%◌, ◌-◌, ◌≤◌, Bool, true, false, cond, List, [], ◌∷◌, length, take, take_all, drop, Some, None, refl, sym, ap, ◌∙◌, inl, inr, arith}
use Rattle.std.specs.Prelude.{slice_index, slice_range, sum_by}
use Rattle.std.proofs.lemmas.Bool.Decides.{eqb_tells}
use Rattle.std.proofs.lemmas.List.{length-take, length-drop}
use Rattle.std.proofs.lemmas.List.Sums.{sum_by-cons}
use Rattle.std.proofs.lemmas.Option.{none-some}
use Rattle.fit_base.specs.declared.base.BaseType.{BaseType}
use Rattle.fit_base.specs.declared.base.BaseType.TheVariants.{Enum}
use Rattle.fit_base.specs.declared.order.Arch.{Arch}
use Rattle.fit_base.specs.Base.{row_of, base_type}
use Rattle.fit_base.specs.Number.{number}
use Rattle.fit_base.specs.Value.{Field, Numbers, Raw, numbers, is_raw, value_size, count_of, unsigned_at, values_of, field_of}
use Rattle.fit_grammar.specs.declared.definition.FieldDefinition.{FieldDefinition}
use Rattle.fit_grammar.specs.Format.Message.{MessageField, fields_of}
use Rattle.fit_grammar.specs.Format.OneValue.{one_of, number_in}
use Rattle.fit_grammar.specs.Calls.LentField.{field_with}
use Rattle.fit_grammar.specs.Private.DefinitionBytes.{fields_in}

one-by : (raw : Bool) (arch : Arch) (size whole : ℕ) (bytes : List ℕ) → cond raw 0 whole ≡ 1
    → one_of (cond raw (Raw bytes) (Numbers (numbers arch size (cond raw 0 whole) bytes))) ≡ Some (number arch (take size bytes))
one-by true arch size whole bytes one = absurd (omega arith)
one-by false arch size whole bytes one = ap (λ (n : ℕ). one_of (Numbers (numbers arch size n bytes))) one

other-by : (raw : Bool) (arch : Arch) (size whole : ℕ) (bytes : List ℕ) → cond raw 0 whole ≢ 1
    → one_of (cond raw (Raw bytes) (Numbers (numbers arch size (cond raw 0 whole) bytes))) ≡ None
other-by true arch size whole bytes other = refl
other-by false arch size zero bytes other = refl
other-by false arch size (suc zero) bytes other = absurd (other refl)
other-by false arch size (suc (suc whole)) bytes other = refl

-- if there is one value, it is the first; with another count there is none
pub one-of-one : (field : Field) → count_of field ≡ 1 → one_of (values_of field) ≡ Some (unsigned_at field 0)
one-of-one field one =
    let none : 0 * value_size field ≡ 0 = omega arith in
    one-by (is_raw field) field.arch (value_size field) (length field.bytes / value_size field) field.bytes one
    ∙ ap (λ (n : ℕ). Some (number field.arch (take (value_size field) (drop n field.bytes)))) (sym none)

pub one-of-other : (field : Field) → count_of field ≢ 1 → one_of (values_of field) ≡ None
one-of-other field other = other-by (is_raw field) field.arch (value_size field) (length field.bytes / value_size field) field.bytes other

-- the byte of a base type gives the type
pub base_type-code : (base : BaseType) → base_type (row_of base).code ≡ Some base
base_type-code Enum = refl
base_type-code _ = refl

-- a field of this type has one value just if it has the bytes of one
one-whole : (base : BaseType) (n : ℕ) → n ≡ (row_of base).size → (n % (row_of base).size ≡ 0) × (n / (row_of base).size ≡ 1)
one-whole Enum n is = (omega (arith, is), omega (arith, is))
one-whole _ n is = (omega (arith, is), omega (arith, is))

whole-one : (base : BaseType) (n : ℕ) → n % (row_of base).size ≡ 0 → n / (row_of base).size ≡ 1 → n ≡ (row_of base).size
whole-one Enum n whole one = omega (arith, whole, one)
whole-one _ n whole one = omega (arith, whole, one)

pub values-of-one : (base : BaseType) (arch : Arch) (bytes : List ℕ) → length bytes ≡ (row_of base).size
    → values_of (field_of base arch bytes) ≡ Numbers (number arch bytes ∷ [])
values-of-one base arch bytes long =
    let whole = one-whole base (length bytes) long in
    let all : take (row_of base).size bytes ≡ bytes = take_all (row_of base).size bytes (omega (arith, long)) in
    rw (base_type-code base, whole.0, whole.1) (ap (λ xs. Numbers (number arch xs ∷ [])) all)

counted : (base : BaseType) (arch : Arch) (bytes : List ℕ) → count_of (field_of base arch bytes) ≡ 1 → length bytes ≡ (row_of base).size
counted base arch bytes one =
    elim (eqb_tells (length bytes % (row_of base).size) 0) [
      | inl whole ↦
          let count : length bytes / (row_of base).size ≡ 1 = rw (base_type-code base, whole.0) at one in
          whole-one base (length bytes) whole.1 count
      | inr broken ↦
          let none : 0 ≡ 1 = rw (base_type-code base, broken.0) at one in
          absurd (omega (arith, none))
    ]

pub size-of-one : (base : BaseType) (arch : Arch) (bytes : List ℕ) (value : ℕ)
    → values_of (field_of base arch bytes) ≡ Numbers (value ∷ []) → length bytes ≡ (row_of base).size
size-of-one base arch bytes value is =
    let field = field_of base arch bytes in
    elim (eqb_tells (count_of field) 1) [
      | inl one ↦ counted base arch bytes one.1
      | inr other ↦ absurd (none-some value (sym (one-of-other field other.1) ∙ ap one_of is))
    ]

-- a field of this type has one number just if it has the bytes of one
pub one-of-type : (base : BaseType) (field : Field) → field.base ≡ (row_of base).code → length field.bytes ≡ (row_of base).size
    → one_of (values_of field) ≡ Some (number field.arch field.bytes)
one-of-type base field code long =
    ap (λ (n : ℕ). one_of (values_of (record { base = n; arch = field.arch; bytes = field.bytes }))) code
    ∙ ap one_of (values-of-one base field.arch field.bytes long)

pub none-of-type : (base : BaseType) (field : Field) → field.base ≡ (row_of base).code → length field.bytes ≢ (row_of base).size
    → one_of (values_of field) ≡ None
none-of-type base field code other =
    ap (λ (n : ℕ). one_of (values_of (record { base = n; arch = field.arch; bytes = field.bytes }))) code
    ∙ one-of-other (field_of base field.arch field.bytes) (λ one. other (counted base field.arch field.bytes one))

pub number-in-one : (base : BaseType) (field : MessageField) → field.base ≡ (row_of base).code → number_in base field ≡ one_of field.values
number-in-one base field code =
    elim (eqb_tells field.base (row_of base).code) [
      | inl is ↦ rw is.0 refl
      | inr other ↦ absurd (other.1 code)
    ]

-- the first of the fields that three bytes each spell
abbrev first-value : Arch → List ℕ → List ℕ → Field
first-value arch bytes content = record { base = slice_index bytes 2; arch = arch; bytes = take (slice_index bytes 1) content }

first-field : (arch : Arch) (bytes content : List ℕ) → 3 ≤ length bytes
    → fields_of arch (fields_in bytes) content
    ≡ record { number = slice_index bytes 0; base = slice_index bytes 2; values = values_of (first-value arch bytes content) }
    ∷ fields_of arch (fields_in (drop 3 bytes)) (drop (slice_index bytes 1) content)
first-field arch [] content three = absurd (omega (arith, three))
first-field arch (a ∷ []) content three = absurd (omega (arith, three))
first-field arch (a ∷ b ∷ []) content three = absurd (omega (arith, three))
first-field arch (a ∷ b ∷ c ∷ bytes) content three = refl

first-within : (bytes content : List ℕ) → 3 ≤ length bytes → sum_by (λ (field : FieldDefinition). field.size) (fields_in bytes) ≤ length content
    → slice_index bytes 1 ≤ length content
first-within [] content three within = absurd (omega (arith, three))
first-within (a ∷ []) content three within = absurd (omega (arith, three))
first-within (a ∷ b ∷ []) content three within = absurd (omega (arith, three))
first-within (a ∷ b ∷ c ∷ bytes) content three within =
    omega (arith, within, sum_by-cons (λ (field : FieldDefinition). field.size) (record { number = a; size = b; base = c }) (fields_in bytes))

abbrev first_or : MessageField → List MessageField → MessageField
first_or d [] = d
first_or d (f ∷ fs) = f

pub without-first : (bytes : List ℕ) → slice_range bytes 3 (length bytes) ≡ drop 3 bytes
without-first bytes = take_all (length bytes - 3) (drop 3 bytes) (omega (arith, length-drop 3 bytes))

-- if it is one of this number and type with one value, its three bytes say so
pub is-field-with : (arch : Arch) (bytes content : List ℕ) (number : ℕ) (base : BaseType) (value : ℕ) (others : List MessageField)
    → 3 ≤ length bytes → sum_by (λ (field : FieldDefinition). field.size) (fields_in bytes) ≤ length content
    → fields_of arch (fields_in bytes) content ≡ field_with number base value ∷ others
    → (slice_index bytes 0 ≡ number) × (slice_index bytes 2 ≡ (row_of base).code) × (slice_index bytes 1 ≡ (row_of base).size)
is-field-with arch bytes content number base value others three within is =
    let front = ap (first_or (field_with number base value)) (sym (first-field arch bytes content three) ∙ is) in
    let code : slice_index bytes 2 ≡ (row_of base).code = ap (λ f. f.base) front in
    let part = take (slice_index bytes 1) content in
    let one : values_of (field_of base arch part) ≡ Numbers (value ∷ []) =
    ap (λ (n : ℕ). values_of (record { base = n; arch = arch; bytes = part })) (sym code) ∙ ap (λ f. f.values) front in (
      ap (λ f. f.number) front,
      code,
      omega (arith, size-of-one base arch part value one, length-take (slice_index bytes 1) content, first-within bytes content three within),
    )

-- and if they say so, it is one
pub field-with : (arch : Arch) (bytes others content part rest : List ℕ) (n : ℕ) (base : BaseType) → 3 ≤ length bytes
    → slice_index bytes 0 ≡ n → slice_index bytes 2 ≡ (row_of base).code → slice_index bytes 1 ≡ (row_of base).size
    → others ≡ drop 3 bytes → part ≡ take (row_of base).size content → length part ≡ (row_of base).size → rest ≡ drop (row_of base).size content
    → fields_of arch (fields_in bytes) content ≡ field_with n base (number arch part) ∷ fields_of arch (fields_in others) rest
field-with arch bytes others content part rest n base three number_is code size others_are part_is long rest_is =
    let first : values_of (first-value arch bytes content) ≡ Numbers (number arch part ∷ []) =
    ap (λ (k : ℕ). values_of (record { base = k; arch = arch; bytes = take (slice_index bytes 1) content })) code
    ∙ ap (λ (k : ℕ). values_of (field_of base arch (take k content))) size
    ∙ ap (λ xs. values_of (field_of base arch xs)) (sym part_is)
    ∙ values-of-one base arch part long in
    first-field arch bytes content three
    ∙ ap (λ (k : ℕ). record { number = k; base = slice_index bytes 2; values = values_of (first-value arch bytes content) }
    ∷ fields_of arch (fields_in (drop 3 bytes)) (drop (slice_index bytes 1) content)) number_is
    ∙ ap (λ (k : ℕ). record { number = n; base = k; values = values_of (first-value arch bytes content) }
    ∷ fields_of arch (fields_in (drop 3 bytes)) (drop (slice_index bytes 1) content)) code
    ∙ ap (λ vs. record { number = n; base = (row_of base).code; values = vs }
    ∷ fields_of arch (fields_in (drop 3 bytes)) (drop (slice_index bytes 1) content)) first
    ∙ ap (λ (k : ℕ). field_with n base (number arch part) ∷ fields_of arch (fields_in (drop 3 bytes)) (drop k content)) size
    ∙ ap (λ xs. field_with n base (number arch part) ∷ fields_of arch (fields_in xs) (drop (row_of base).size content)) (sym others_are)
    ∙ ap (λ xs. field_with n base (number arch part) ∷ fields_of arch (fields_in others) xs) (sym rest_is)
