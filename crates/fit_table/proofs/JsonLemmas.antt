-- Values in units, by the cases that the code distinguishes: for `json/member` and `json/known`.
use Rattle.std.proofs.Common.{◌≡◌, ◌≢◌, ℕ, ◌+◌, ◌-◌, Bool, true, false, List, ◌++◌, ◌⊎◌, inl, inr, eq-zero-or-pos, length, get_or, append_assoc, refl, sym, ap, ◌∙◌, codes, Option, Some, None, arith}
use Rattle.std.proofs.lemmas.Bool.{cases_lt}
use Rattle.std.proofs.lemmas.List.{get_or-set_same, get_or-set_other, get_or_past, get_or-replicate, length-replicate, length-set}
use lib.ListN.{replicate}
use Rattle.std.specs.Prelude.{slice_set}
use Rattle.fit_base.specs.declared.base.BaseType.{BaseType}
use Rattle.fit_base.specs.declared.base.BaseType.TheVariants.{Byte, String}
use Rattle.fit_base.specs.Base.{base_type}
use Rattle.fit_base.specs.Value.{Field, count_of, unsigned_at, value_size, values_of}
use Rattle.fit_base.proofs.Values.{get_or-numbers_of}
use Rattle.fit_text.specs.Json.{json_notation}
use Rattle.fit_text.proofs.ValueLemmas.{number_values, only_number}
use Rattle.fit_grammar.specs.Format.Message.{MessageField}
use Rattle.fit_text.specs.Values.{IsNumber, quoted}
use Rattle.fit_text.specs.Plan.{separator}
use Rattle.fit_profile.specs.Facts.{FieldFacts}
use Rattle.fit_profile.specs.Row.{row_by}
use Rattle.fit_table.specs.declared.json.known.Found.{Found}
use Rattle.fit_table.specs.declared.unit.Unit.{Unit as AnyUnit}
use Rattle.fit_table.specs.Json.{are_in_units, has_units, number_in, number_json, unit_for, field_unit, values_in, field_title, field_json, IsRowOf, AreKnown}
use Rattle.fit_table.specs.Table.{name_by}
use Rattle.fit_table.specs.Unit.{end_of, shown_by, suffix_of, unit_of}

-- ---- one number in a unit

units_are_numbers : (type : BaseType) → has_units (Some type) ≡ true → IsNumber type
units_are_numbers String e = cc
units_are_numbers Byte e = cc
units_are_numbers type e = tt

pub in_unit : (unit : AnyUnit) (field : Field) (type : BaseType) → base_type field.base ≡ Some type → has_units (Some type) ≡ true →
    count_of field ≡ 1 → number_json unit type (unsigned_at field 0) ≡ values_in unit (base_type field.base) (values_of field)
in_unit unit field type known units one =
    let own : number_json unit type (unsigned_at field 0) ≡ number_in unit type (unsigned_at field 0) = rw units refl in
    own ∙ ap (number_in unit type) (sym (get_or-numbers_of field 0 (omega (arith, one))))
    ∙ only_number json_notation (number_in unit type) field.arch (value_size field) (count_of field) field.bytes one
    ∙ number_values json_notation (number_in unit) field type known (units_are_numbers type units) (λ none. omega (arith, one, none))

-- ---- a field

member_parts : (first : Bool) (title values : List ℕ) →
    (separator (codes ",") first ++ codes "\"") ++ (title ++ (codes "\":" ++ values)) ≡ separator (codes ",") first ++ ((quoted title ++ codes ":") ++ values)
member_parts first title values = simp append_assoc

pub field_parts : (utc first : Bool) (message : ℕ) (field : MessageField) (row : Option FieldFacts) (in_units : Bool) (own unit : AnyUnit) →
    row ≡ row_by true message field.number → in_units ≡ are_in_units (base_type field.base) field.values
    → own ≡ unit_of row → unit ≡ unit_for in_units (shown_by false utc own) →
    (separator (codes ",") first ++ codes "\"")
    ++ ((name_by row field.number ++ suffix_of (end_of row) unit) ++ (codes "\":" ++ values_in unit (base_type field.base) field.values))
    ≡ separator (codes ",") first ++ field_json utc message field
field_parts utc first message field row in_units own unit h known scale is =
    let whole : unit ≡ field_unit utc message field =
    is ∙ ap (λ (it : Bool). unit_for it (shown_by false utc own)) known
    ∙ ap (λ u. unit_for (are_in_units (base_type field.base) field.values) (shown_by false utc u)) (scale ∙ ap unit_of h) in
    rw (whole, h) (member_parts first (field_title utc message field) (values_in (field_unit utc message field) (base_type field.base) field.values))

-- ---- what was looked up

pub known_none : (count : ℕ) → AreKnown (replicate count None)
known_none count at =
    let free : Option Found = None in
    elim (cases_lt at count) [
      | inl lt ↦ let none = get_or-replicate count at free free lt in rw none tt
      | inr ge ↦ let none = get_or_past (replicate count free) at free (omega (arith, ge, length-replicate count free)) in rw none tt
    ]

same_or_not : (a b : ℕ) → (a ≡ b) ⊎ (a ≢ b)
same_or_not a b =
    elim (eq-zero-or-pos ((a - b) + (b - a))) [
      | inl none ↦ inl (omega arith)
      | inr some ↦ inr (λ e. omega (arith, some, e))
    ]

-- with one more
pub known_more : (places : List (Option Found)) (k : ℕ) (found : Found) → AreKnown places →
    IsRowOf found.message found.number found.row → AreKnown (slice_set places k (Some found))
known_more places k found h is at =
    elim (same_or_not at k) [
      | inl here ↦ elim (cases_lt k (length places)) [
        | inl lt ↦
            let there : get_or (slice_set places k (Some found)) at None ≡ Some found =
            ap (λ i. get_or (slice_set places k (Some found)) i None) here ∙ get_or-set_same places k (Some found) None lt in
            rw there is
        | inr ge ↦
            let gone = get_or_past (slice_set places k (Some found)) at None (omega (arith, ge, here, length-set places k (Some found))) in
            rw gone tt
      ]
      | inr other ↦ let same = get_or-set_other places k at (Some found) None other in rw same (h at)
    ]
