-- What a message developer_data_id states, whatever time it has, and the makers as they are lent: for `Makers`.
use Rattle.std.proofs.Common.{◌≡◌, ℕ, ◌/◌, ◌%◌, ◌==◌, Bool, true, false, List, [], ◌∷◌, length, Option, Some, None, refl, sym, ap, ◌∙◌, arith, eq-eqb, inl, inr, if◌then◌else◌}
use Rattle.std.proofs.lemmas.Bool.Decides.{eqb_tells}
use Rattle.fit_base.specs.declared.order.Arch.{Arch}
use Rattle.fit_base.specs.declared.order.Arch.TheVariants.{Little, Big}
use Rattle.fit_base.specs.declared.base.BaseType.{BaseType}
use Rattle.fit_base.specs.declared.base.BaseType.TheVariants.{Uint8}
use Rattle.fit_base.specs.Base.{base_type}
use Rattle.fit_base.specs.Number.{number}
use Rattle.fit_base.specs.Value.{Values, Numbers, Raw, numbers, raw_by, size_by, values_of}
use Rattle.fit_grammar.specs.declared.definition.Definition.{Definition}
use Rattle.fit_grammar.specs.Format.Message.{MessageField, fields_of, message_under}
use Rattle.fit_grammar.specs.Format.OneValue.{value_of}
use Rattle.fit_joining.specs.Makers.{Maker, bytes_by, id_in, is_single, maker_of}

-- ---- whatever time it has

pub value_again : (d : Definition) (time : Option ℕ) (content : List ℕ)
    → value_of Uint8 3 (message_under d time content) ≡ value_of Uint8 3 (message_under d None content)
value_again d None content = refl
value_again d (Some time) content = refl

-- the maker that these fields name
abbrev pub maker_in : List MessageField → Maker
maker_in fields = record { application = id_in 1 fields; developer = id_in 0 fields }

pub maker_again : (d : Definition) (time : Option ℕ) (content : List ℕ)
    → maker_of (message_under d time content) ≡ maker_in (fields_of d.arch d.fields.items content)
maker_again d None content = refl
maker_again d (Some time) content = refl

-- ---- the bytes of a field whose values have one byte

one_byte : (arch : Arch) (n : ℕ) → number arch (n ∷ []) ≡ n
one_byte Little n = omega arith
one_byte Big n = omega arith

numbers_bytes : (arch : Arch) (bytes : List ℕ) → numbers arch 1 (length bytes) bytes ≡ bytes
numbers_bytes arch [] = refl
numbers_bytes arch (byte ∷ bytes) = rw (one_byte arch byte, numbers_bytes arch bytes) refl

abbrev values_by : Option BaseType → Arch → List ℕ → Values
values_by o arch bytes =
    if raw_by o (length bytes) then Raw bytes
    else Numbers (numbers arch (size_by o) (if raw_by o (length bytes) then 0 else length bytes / size_by o) bytes)

single : (o : Option BaseType) (arch : Arch) (bytes : List ℕ) → size_by o ≡ 1 → values_by o arch bytes ≡ Numbers bytes
single None arch bytes one = absurd (omega (arith, one))
single (Some type) arch bytes one =
    let rest : (length bytes % 1 == 0) ≡ true = eq-eqb _ _ (omega arith) in
    let whole : length bytes / 1 ≡ length bytes = omega arith in
    rw (one, rest, whole, numbers_bytes arch bytes) refl

size_one : (size : ℕ) → (size == 1) ≡ true → size ≡ 1
size_one size is =
    elim (eqb_tells size 1) [
      | inl same ↦ same.1
      | inr other ↦ absurd (cc (sym other.0 ∙ is))
    ]

by_single : (b : Bool) (values : Values) (bytes : List ℕ) → (b ≡ true → values ≡ Numbers bytes)
    → (if b then bytes else []) ≡ bytes_by b values
by_single true values bytes is = sym (ap (bytes_by true) (is refl))
by_single false values bytes is = refl

pub bytes_single : (base : ℕ) (arch : Arch) (bytes : List ℕ)
    → (if is_single base then bytes else []) ≡ bytes_by (is_single base) (values_of (record { base = base; arch = arch; bytes = bytes }))
bytes_single base arch bytes =
    by_single (is_single base) (values_by (base_type base) arch bytes) bytes
    (λ is. single (base_type base) arch bytes (size_one (size_by (base_type base)) is))
