-- The time that a field states is its value as an uint32, and less than four bytes state none: for `time_by` and `time`.
use Rattle.std.proofs.Common.{◌≡◌, ◌≢◌, ◌<◌, ℕ, List, [], ◌∷◌, length, take, drop, Option, None, Some, ◌==◌, if◌then◌else◌, refl, ap, ◌∙◌, inl, inr, arith}
use Rattle.std.specs.Prelude.{option_and_then}
use Rattle.std.proofs.lemmas.List.{length-take, length-drop}
use Rattle.std.proofs.lemmas.Bool.Decides.{eqb_tells}
use Rattle.fit_base.specs.declared.base.BaseType.TheVariants.{Uint32}
use Rattle.fit_base.specs.declared.order.Arch.{Arch}
use Rattle.fit_base.specs.Value.{Field, Values, Numbers, Raw, values_of}
use Rattle.fit_grammar.specs.declared.definition.FieldDefinition.{FieldDefinition}
use Rattle.fit_grammar.specs.Format.OneValue.{one_of, value_in}
use Rattle.fit_grammar.specs.Format.Message.{MessageField, fields_of, time_in, stated_by, time_stated}
use Rattle.fit_grammar.proofs.OneValue.{none-of-type}

abbrev valid : ℕ → Option ℕ
valid time = if time == 0xFFFFFFFF then None else Some time

by_one : (values : Values) → time_in values ≡ option_and_then valid (one_of values)
by_one (Numbers []) = refl
by_one (Numbers (time ∷ [])) = refl
by_one (Numbers (time ∷ other ∷ times)) = refl
by_one (Raw bytes) = refl

pub stated_value : (f : MessageField) → f.number ≡ 253 → value_in Uint32 f ≡ stated_by f
stated_value f numbered =
    elim (eqb_tells f.number 253) [
      | inl is ↦
          elim (eqb_tells f.base 0x86) [
            | inl based ↦ rw (is.0, based.0, by_one f.values) refl
            | inr other ↦ rw (is.0, other.0) refl
          ]
      | inr other ↦ absurd (other.1 numbered)
    ]

no_time : (v : Field) → v.base ≡ 0x86 → length v.bytes ≢ 4 → time_in (values_of v) ≡ None
no_time v base other = by_one (values_of v) ∙ ap (option_and_then valid) (none-of-type Uint32 v base other)

not_stated : (f : MessageField) → (f.base ≡ 0x86 → time_in f.values ≡ None) → stated_by f ≡ None
not_stated f no_value =
    elim (eqb_tells f.number 253) [
      | inl numbered ↦
          elim (eqb_tells f.base 0x86) [
            | inl based ↦ rw (numbered.0, based.0, no_value based.1) refl
            | inr other ↦ rw (numbered.0, other.0) refl
          ]
      | inr other ↦ rw other.0 refl
    ]

-- fields of less than four bytes state no time
pub no_time_in_short : (arch : Arch) (fields : List FieldDefinition) (content : List ℕ)
    → length content < 4 → time_stated (fields_of arch fields content) ≡ None
no_time_in_short arch [] content short = refl
no_time_in_short arch (field ∷ fields) content short =
    let bytes = take field.size content in
    let few : length bytes < 4 = omega (arith, short, length-take field.size content) in
    let left : length (drop field.size content) < 4 = omega (arith, short, length-drop field.size content) in
    let value : Field = record { base = field.base; arch = arch; bytes = bytes } in
    let first = not_stated (record { number = field.number; base = field.base; values = values_of value })
    (λ based. no_time value based (λ four. absurd (omega (arith, few, four)))) in
    rw (first, no_time_in_short arch fields (drop field.size content) left) refl
