-- The fields of a definition that are left, one by one: for the loops over fields.
use Rattle.std.proofs.Common.{◌≡◌, ℕ, ◌-◌, ◌≤◌, List, [], ◌∷◌, length, get_or, take, drop, sym, ap, arith}
use Rattle.std.specs.Prelude.{sum_by}
use Rattle.std.proofs.lemmas.List.{length-drop, take_all}
use Rattle.std.proofs.lemmas.List.Sums.{sum_by-cons}
use Rattle.fit_grammar.specs.declared.definition.FieldDefinition.{FieldDefinition}

-- a field and those after it
pub split : (fields : List FieldDefinition) (any : FieldDefinition) → 1 ≤ length fields
    → fields ≡ get_or fields 0 any ∷ take (length fields - 1) (drop 1 fields)
split [] any some = absurd (omega arith)
split (field ∷ fields) any some =
    ap (λ (others : List FieldDefinition). field ∷ others) (sym (take_all (length (field ∷ fields) - 1) fields (omega arith)))

pub fields_within : (fields others : List FieldDefinition) (field : FieldDefinition) (content after : List ℕ) → fields ≡ field ∷ others
    → after ≡ drop field.size content → sum_by (λ f. f.size) fields ≤ length content → sum_by (λ f. f.size) others ≤ length after
fields_within fields others field content after is after_is within =
    omega (
      arith,
      within,
      ap (λ (fs : List FieldDefinition). sum_by (λ f. f.size) fs) is,
      sum_by-cons (λ f. f.size) field others,
      ap length after_is,
      length-drop field.size content,
    )
