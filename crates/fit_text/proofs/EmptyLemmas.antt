-- Fields of size 0 have no bytes, and leaving them out moves no other field: for `form`.
use Rattle.std.proofs.Common.{◌≡◌, ◌⊎◌, ℕ, zero, suc, ◌/◌, ◌%◌, ◌≤◌, ◌==◌, Bool, true, false, List, [], ◌∷◌, ◌++◌, length, take, drop, sum_by, refl, sym, ap, ◌∙◌, inl, inr, Option, Some, None, arith, if◌then◌else◌}
use Rattle.std.specs.Prelude.{not}
use Rattle.std.specs.List.{filter}
use Rattle.std.proofs.Math.Dec.{eqb-suc-zero}
use Rattle.std.proofs.lemmas.Bool.{eqb-true}
use Rattle.std.proofs.lemmas.List.{length-drop, length-take-le}
use Rattle.std.proofs.lemmas.List.Sums.{sum_by-cons}
use Rattle.fit_base.specs.declared.order.Arch.{Arch}
use Rattle.fit_base.specs.declared.base.BaseType.{BaseType}
use Rattle.fit_base.specs.declared.base.BaseType.TheVariants.{Sint16, Uint16, Sint32, Uint32, Sint64, Uint64, Float32, Float64, Uint16z, Uint32z, Uint64z}
use Rattle.fit_base.specs.Base.{row_of, base_type}
use Rattle.fit_base.specs.Value.{Values, Numbers, Raw, raw_by, size_by, numbers, values_of}
use Rattle.fit_grammar.specs.declared.definition.FieldDefinition.{FieldDefinition}
use Rattle.fit_grammar.specs.declared.definition.DeveloperFieldDefinition.{DeveloperFieldDefinition}
use Rattle.fit_grammar.specs.Format.Message.{MessageField, MessageDeveloperField, fields_of, developer_of, time_field, time_fields}
use Rattle.fit_text.specs.Form.{holds, has_bytes, has_developer_bytes, shown}
use Rattle.fit_text.specs.Plan.{has_size, has_developer_size}

-- ---- sizes

suc_some : (n : ℕ) → not (suc n == 0) ≡ true
suc_some n = ap not (eqb-suc-zero n)

none_or_some : (n : ℕ) → ((n ≡ 0) × (not (n == 0) ≡ false)) ⊎ ((1 ≤ n) × (not (n == 0) ≡ true))
none_or_some zero = inl (refl, refl)
none_or_some (suc n) = inr (omega arith, suc_some n)

left_sum : {X : Type 0} (size : X → ℕ) (xs : List X) → sum_by size (filter (λ x. not (size x == 0)) xs) ≡ sum_by size xs
left_sum size [] = refl
left_sum size (x ∷ xs) =
    let rest = left_sum size xs in
    let all = sum_by-cons size x xs in
    elim (none_or_some (size x)) [
      | inl none ↦ rw none.1 (omega (arith, rest, all, none.0))
      | inr some ↦ rw some.1 (omega (arith, rest, all, sum_by-cons size x (filter (λ x. not (size x == 0)) xs)))
    ]

pub shown_size : (empty : Bool) (fields : List FieldDefinition) → sum_by (λ f. f.size) (shown empty has_size fields) ≡ sum_by (λ f. f.size) fields
shown_size true fields = refl
shown_size false fields = left_sum (λ (f : FieldDefinition). f.size) fields

pub developer_shown_size : (empty : Bool) (fields : List DeveloperFieldDefinition) →
    sum_by (λ f. f.size) (shown empty has_developer_size fields) ≡ sum_by (λ f. f.size) fields
developer_shown_size true fields = refl
developer_shown_size false fields = left_sum (λ (f : DeveloperFieldDefinition). f.size) fields

-- ---- what a field holds

abbrev held : Option BaseType → Arch → List ℕ → Values
held o arch bytes =
    if raw_by o (length bytes) then Raw bytes
    else Numbers (numbers arch (size_by o) (if raw_by o (length bytes) then 0 else length bytes / size_by o) bytes)

none_held : (o : Option BaseType) (arch : Arch) → holds (held o arch []) ≡ false
none_held None arch = refl
none_held (Some Sint16) arch = refl
none_held (Some Uint16) arch = refl
none_held (Some Uint16z) arch = refl
none_held (Some Sint32) arch = refl
none_held (Some Uint32) arch = refl
none_held (Some Uint32z) arch = refl
none_held (Some Float32) arch = refl
none_held (Some Float64) arch = refl
none_held (Some Sint64) arch = refl
none_held (Some Uint64) arch = refl
none_held (Some Uint64z) arch = refl
none_held (Some _) arch = refl

some_numbers : (arch : Arch) (size count : ℕ) (bytes : List ℕ) → 1 ≤ count → holds (Numbers (numbers arch size count bytes)) ≡ true
some_numbers arch size zero bytes some = absurd (omega arith)
some_numbers arch size (suc count) bytes some = refl

some_count : (type : BaseType) (n : ℕ) → 1 ≤ n → n % (row_of type).size ≡ 0 → 1 ≤ n / (row_of type).size
some_count Sint16 n some whole = omega arith
some_count Uint16 n some whole = omega arith
some_count Uint16z n some whole = omega arith
some_count Sint32 n some whole = omega arith
some_count Uint32 n some whole = omega arith
some_count Uint32z n some whole = omega arith
some_count Float32 n some whole = omega arith
some_count Float64 n some whole = omega arith
some_count Sint64 n some whole = omega arith
some_count Uint64 n some whole = omega arith
some_count Uint64z n some whole = omega arith
some_count _ n some whole = omega arith

by_rest : (whole : Bool) (arch : Arch) (size count : ℕ) (byte : ℕ) (bytes : List ℕ) → (whole ≡ true → 1 ≤ count) →
    holds (if (if whole then false else true) then Raw (byte ∷ bytes)
    else Numbers (numbers arch size (if (if whole then false else true) then 0 else count) (byte ∷ bytes))) ≡ true
by_rest true arch size count byte bytes some = some_numbers arch size count (byte ∷ bytes) (some refl)
by_rest false arch size count byte bytes some = refl

some_held : (o : Option BaseType) (arch : Arch) (byte : ℕ) (bytes : List ℕ) → holds (held o arch (byte ∷ bytes)) ≡ true
some_held None arch byte bytes = refl
some_held (Some type) arch byte bytes =
    let n = length (byte ∷ bytes) in
    by_rest (n % (row_of type).size == 0) arch (row_of type).size (n / (row_of type).size) byte bytes
    (λ whole. some_count type n (omega arith) (eqb-true _ _ whole))

held_by : (o : Option BaseType) (arch : Arch) (bytes : List ℕ) → holds (held o arch bytes) ≡ not (length bytes == 0)
held_by o arch [] = none_held o arch
held_by o arch (byte ∷ bytes) = some_held o arch byte bytes ∙ sym (suc_some (length bytes))

holds_some : (base : ℕ) (arch : Arch) (bytes : List ℕ) →
    holds (values_of (record { base = base; arch = arch; bytes = bytes })) ≡ not (length bytes == 0)
holds_some base arch bytes = held_by (base_type base) arch bytes

front_size : (n : ℕ) (content : List ℕ) → n ≤ length content → not (length (take n content) == 0) ≡ not (n == 0)
front_size n content fits = ap (λ k. not (k == 0)) (length-take-le n content fits)

-- ---- the fields of a message

left_fields : (arch : Arch) (fields : List FieldDefinition) (content : List ℕ) → sum_by (λ f. f.size) fields ≤ length content →
    fields_of arch (filter has_size fields) content ≡ filter has_bytes (fields_of arch fields content)
left_fields arch [] content fits = refl
left_fields arch (field ∷ fields) content fits =
    let head : MessageField = record
    { number = field.number; base = field.base; values = values_of (record { base = field.base; arch = arch; bytes = take field.size content }) } in
    let all = sum_by-cons (λ (f : FieldDefinition). f.size) field fields in
    let after = length-drop field.size content in
    let rest = left_fields arch fields (drop field.size content) (omega (arith, all, after, fits)) in
    let has = holds_some field.base arch (take field.size content) ∙ front_size field.size content (omega (arith, all, fits)) in
    elim (none_or_some field.size) [
      | inl none ↦ rw (has, none.1, none.0) (rw none.0 at rest)
      | inr some ↦ rw (has, some.1) (ap (λ t. head ∷ t) rest)
    ]

left_developer : (arch : Arch) (fields : List DeveloperFieldDefinition) (content : List ℕ) →
    sum_by (λ f. f.size) fields ≤ length content →
    developer_of arch (filter has_developer_size fields) content ≡ filter has_developer_bytes (developer_of arch fields content)
left_developer arch [] content fits = refl
left_developer arch (field ∷ fields) content fits =
    let head : MessageDeveloperField = record { index = field.index; number = field.number; arch = arch; bytes = take field.size content } in
    let all = sum_by-cons (λ (f : DeveloperFieldDefinition). f.size) field fields in
    let after = length-drop field.size content in
    let rest = left_developer arch fields (drop field.size content) (omega (arith, all, after, fits)) in
    let has = front_size field.size content (omega (arith, all, fits)) in
    elim (none_or_some field.size) [
      | inl none ↦ rw (has, none.1, none.0) (rw none.0 at rest)
      | inr some ↦ rw (has, some.1) (ap (λ t. head ∷ t) rest)
    ]

pub developer_shown : (empty : Bool) (arch : Arch) (fields : List DeveloperFieldDefinition) (content : List ℕ) →
    sum_by (λ f. f.size) fields ≤ length content →
    developer_of arch (shown empty has_developer_size fields) content ≡ shown empty has_developer_bytes (developer_of arch fields content)
developer_shown true arch fields content fits = refl
developer_shown false arch fields content fits = left_developer arch fields content fits

-- with the field of a compressed timestamp in front
pub timed_shown : (empty : Bool) (time : Option ℕ) (arch : Arch) (fields : List FieldDefinition) (content : List ℕ) →
    sum_by (λ f. f.size) fields ≤ length content →
    time_fields time ++ fields_of arch (shown empty has_size fields) content ≡ shown empty has_bytes (time_fields time ++ fields_of arch fields content)
timed_shown true time arch fields content fits = refl
timed_shown false None arch fields content fits = left_fields arch fields content fits
timed_shown false (Some time) arch fields content fits = ap (λ t. time_field time ∷ t) (left_fields arch fields content fits)
