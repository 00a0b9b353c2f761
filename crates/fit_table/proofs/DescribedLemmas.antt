-- Descriptions of developer fields: for `described`.
use Rattle.std.proofs.Common.{◌≡◌, ℕ, ◌==◌, ◌%◌, Bool, true, false, List, length, refl, sym, ap, ◌∙◌, Option, Some, if◌then◌else◌, eq-eqb, arith}
use Rattle.std.specs.List.{before_first}
use Rattle.fit_base.specs.declared.base.BaseType.{BaseType}
use Rattle.fit_base.specs.declared.base.BaseType.TheVariants.{String}
use Rattle.fit_base.specs.Base.{base_type}
use Rattle.fit_base.specs.Value.{Field, Numbers, Raw, raw_by, is_raw, values_of}
use Rattle.fit_table.specs.Described.{text_by}
use Rattle.fit_table.proofs.CellLemmas.{string_bytes}

-- ---- strings

whole_string : (o : Option BaseType) (bytes : List ℕ) → o ≡ Some String → raw_by o (length bytes) ≡ false
whole_string o bytes e =
    let rest : (length bytes % 1 == 0) ≡ true = eq-eqb _ _ (omega arith) in rw (e, rest) refl

text_if : (o : Option BaseType) (b : Bool) (bytes ns : List ℕ) → o ≡ Some String → b ≡ false →
    before_first (λ byte. byte == 0) ns ≡ text_by o (if b then Raw bytes else Numbers ns)
text_if o b bytes ns e f = rw (e, f) refl

-- the text of a field that is a string
pub text_is : (field : Field) → base_type field.base ≡ Some String →
    before_first (λ byte. byte == 0) field.bytes ≡ text_by (base_type field.base) (values_of field)
text_is field e =
    ap (before_first (λ byte. byte == 0)) (sym (string_bytes field e))
    ∙ text_if (base_type field.base) (is_raw field) field.bytes _ e (whole_string (base_type field.base) field.bytes e)
