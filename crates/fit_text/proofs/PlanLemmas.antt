-- What a plan shows is what its fields show: for `form/plan`, `form/plans` and `form/column`.
use Rattle.std.proofs.lemmas.List.{get_or-set_same, get_or-set_other, get_or_past, drop-append-le, take-append-le, length-drop, drop-drop, take_all}
use Rattle.std.proofs.lemmas.List.Sums.{sum_by-cons}
use Rattle.std.specs.Array.{AllOfLen}
use Rattle.arrayvec.specs.ArrayVec.{ArrayVec}
use Rattle.std.specs.Prelude.{slice_range, nat_le, not, ◌&&◌}
use Rattle.std.proofs.lemmas.Bool.{cases_lt, lt-ltb, eqb-true}
use Rattle.fit_grammar.specs.Format.Item.{Defines, fields_size}
use Rattle.fit_grammar.specs.Calls.Table.{in_force_after}
use Rattle.std.proofs.Common.{set, eq-zero-or-pos, ◌⊎◌, ◌≡◌, ◌≢◌, ℕ, suc, ◌+◌, ◌-◌, ◌*◌, ◌/◌, ◌%◌, ◌^◌, ◌<◌, ◌≤◌, ◌==◌, Bool, true, false, List, [], ◌∷◌, ◌++◌, length, get_or, take, drop, sum_by, append_assoc, pos, ◌-ℤ◌, refl, sym, ap, ◌∙◌, inl, inr, append-nil, eq-eqb, nat_lt, ltb, codes, decimal, Option, Some, None, IsSome, length-append, length-set, arith, rules, if◌then◌else◌}
use Rattle.std.specs.Fmt.{signed_decimal}
use Rattle.std.specs.List.{list_any}
use Rattle.std.specs.Option.{option_and_then}
use Rattle.fit_base.specs.declared.order.Arch.{Arch}
use Rattle.fit_base.specs.declared.base.BaseType.{BaseType}
use Rattle.fit_base.specs.declared.base.BaseType.TheVariants.{Enum, Sint8, Uint8, Sint16, Uint16, Sint32, Uint32, String, Float32, Float64, Uint8z, Uint16z, Uint32z, Byte, Sint64, Uint64, Uint64z}
use Rattle.fit_base.specs.Number.{number}
use Rattle.fit_base.specs.Base.{row_of, base_type, base_type_in, has_sign}
use Rattle.fit_base.specs.Value.{Field, IsValueSize, raw_by, size_by, value_size, count_of, values_of, numbers}
use Rattle.fit_text.specs.declared.form.plan.Kind.{Kind}
use Rattle.fit_text.specs.declared.form.plan.Kind.TheVariants.{Unsigned, Signed, Date, Other}
use Rattle.fit_text.specs.declared.form.plan.Column.{Column}
use Rattle.fit_text.specs.declared.form.plan.Plan.{Plan}
use Rattle.fit_text.specs.declared.form.plans.Plans.{Plans}
use Rattle.fit_grammar.specs.declared.definition.Definition.{Definition}
use Rattle.fit_grammar.specs.declared.definition.FieldDefinition.{FieldDefinition}
use Rattle.fit_grammar.specs.declared.definition.DeveloperFieldDefinition.{DeveloperFieldDefinition}
use Rattle.fit_grammar.specs.Format.Message.{MessageField}
use Rattle.fit_grammar.specs.Format.OneValue.{value_in}
use Rattle.fit_grammar.proofs.OneValue.{one-of-one, one-of-other}
use Rattle.fit_text.specs.Date.{calendar_time, date_in, date_text}
use Rattle.fit_text.specs.Form.{shown}
use Rattle.fit_text.specs.Notation.{Notation}
use Rattle.fit_text.specs.Plan.{field_at, shown_at, unsigned_of, signed_of, date_of, IsKind, IsWholeOf, IsKindOf, has_size, IsColumn, AreColumns, IsShown, IsPlanOf, IsPlanIn, IsPlanAt, ArePlansFor}
use Rattle.fit_text.specs.Text.{message_name}
use Rattle.fit_text.specs.Values.{IsNumber, marked, plain_as, number_as, numbers_as, shown_as, values_as}
use Rattle.fit_text.proofs.EmptyLemmas.{shown_size}
use Rattle.fit_text.proofs.ValueLemmas.{number_values, plain_whole, plain_signed, whole_unsigned, whole_signed}

-- ---- one number of a type

without_sign : (notation : Notation) (type : BaseType) (n : ℕ) → has_sign type ≡ false → type ≢ Float32 → type ≢ Float64 →
    decimal n ≡ plain_as notation type n
without_sign notation type n e no_32 no_64 = whole_unsigned type n e ∙ plain_whole notation type n no_32 no_64

unsigned_shows : (type : BaseType) (invalid : ℕ) (notation : Notation) (n : ℕ) → invalid ≡ (row_of type).invalid →
    has_sign type ≡ false → type ≢ Float32 → type ≢ Float64 → unsigned_of notation.invalid invalid n ≡ number_as notation type n
unfolding number_as
unsigned_shows type invalid notation n is e no_32 no_64 =
    rw is (ap (λ t. if n == (row_of type).invalid then notation.invalid else t) (without_sign notation type n e no_32 no_64))

-- a type without a sign, other than a float
pub unsigned_kind : (type : BaseType) (invalid : ℕ) → invalid ≡ (row_of type).invalid → IsNumber type → has_sign type ≡ false →
    type ≢ Float32 → type ≢ Float64 → IsWholeOf type (Unsigned invalid)
unsigned_kind type invalid is numbers e no_32 no_64 =
    record { numbers = numbers; shows = λ notation n held. unsigned_shows type invalid notation n is e no_32 no_64 }

-- a number past half of the range is negative
below_zero : (m n : ℕ) → n < suc m → 45 ∷ decimal (suc m - n) ≡ signed_decimal (pos n -ℤ pos (suc m))
below_zero m n h =
    let t : ltb n (suc m) ≡ true = lt-ltb n (suc m) h in
    let e : suc m - n ≡ suc (suc m - suc n) = omega arith in
    rw t (ap (λ k. 45 ∷ decimal k) e)

by_sign : (b : Bool) (m n : ℕ) → n < suc m →
    (if b then decimal n else 45 ∷ decimal (suc m - n)) ≡ signed_decimal (if b then pos n else pos n -ℤ pos (suc m))
by_sign true m n h = refl
by_sign false m n h = below_zero m n h

signed_shows : (type : BaseType) (notation : Notation) (n : ℕ) → has_sign type ≡ true →
    n < 256 ^ (row_of type).size → signed_of notation.invalid (row_of type).invalid n ≡ number_as notation type n
unfolding number_as
signed_shows Sint8 notation n e h =
    ap (λ t. if n == 127 then notation.invalid else t) (by_sign (nat_lt n 128) 255 n h ∙ whole_signed Sint8 n refl ∙ plain_signed notation Sint8 n refl)
signed_shows Sint16 notation n e h =
    ap (λ t. if n == 32767 then notation.invalid else t)
    (by_sign (nat_lt n 32768) 65535 n h ∙ whole_signed Sint16 n refl ∙ plain_signed notation Sint16 n refl)
signed_shows Sint32 notation n e h =
    ap (λ t. if n == 2147483647 then notation.invalid else t)
    (by_sign (nat_lt n 2147483648) 4294967295 n h ∙ whole_signed Sint32 n refl ∙ plain_signed notation Sint32 n refl)
signed_shows Sint64 notation n e h =
    ap (λ t. if n == 9223372036854775807 then notation.invalid else t)
    (by_sign (nat_lt n 9223372036854775808) 18446744073709551615 n h ∙ whole_signed Sint64 n refl ∙ plain_signed notation Sint64 n refl)
signed_shows type notation n e h = cc

signed_limit : (type : BaseType) → has_sign type ≡ true → 256 ^ (row_of type).size ≡ 2 * (row_of type).invalid + 2
signed_limit Sint8 e = refl
signed_limit Sint16 e = refl
signed_limit Sint32 e = refl
signed_limit Sint64 e = refl
signed_limit type e = cc

-- a type with a sign
pub signed_kind : (type : BaseType) (invalid : ℕ) → invalid ≡ (row_of type).invalid → IsNumber type → has_sign type ≡ true →
    IsWholeOf type (Signed invalid) × (256 ^ (row_of type).size ≡ 2 * invalid + 2)
signed_kind type invalid is numbers e =
    rw is (record { numbers = numbers; shows = λ notation n held. signed_shows type notation n e held }, signed_limit type e)

-- ---- a field of one value

one_count : (type : BaseType) (n : ℕ) → n ≡ (row_of type).size → (n % (row_of type).size ≡ 0) × (n / (row_of type).size ≡ 1)
one_count Float64 n e = (omega arith, omega arith)
one_count _ n e = (omega arith, omega arith)

value_size_of : (type : BaseType) → IsValueSize (row_of type).size
value_size_of Sint16 = inr (inl refl)
value_size_of Uint16 = inr (inl refl)
value_size_of Uint16z = inr (inl refl)
value_size_of Sint32 = inr (inr (inl refl))
value_size_of Uint32 = inr (inr (inl refl))
value_size_of Uint32z = inr (inr (inl refl))
value_size_of Float32 = inr (inr (inl refl))
value_size_of Float64 = inr (inr (inr refl))
value_size_of Sint64 = inr (inr (inr refl))
value_size_of Uint64 = inr (inr (inr refl))
value_size_of Uint64z = inr (inr (inr refl))
value_size_of _ = inl refl

abbrev count_by : Option BaseType → List ℕ → ℕ
count_by o bytes = if raw_by o (length bytes) then 0 else length bytes / size_by o

pub one_of_type : (type : BaseType) (bytes : List ℕ) → length bytes ≡ (row_of type).size → count_by (Some type) bytes ≡ 1
one_of_type type bytes e =
    let counted = one_count type (length bytes) e in
    let rest : (length bytes % (row_of type).size == 0) ≡ true = eq-eqb _ _ counted.0 in
    rw (rest, counted.1) refl

one_number : (type : BaseType) (arch : Arch) (bytes : List ℕ) → length bytes ≡ (row_of type).size →
    numbers arch (size_by (Some type)) (count_by (Some type) bytes) bytes ≡ number arch bytes ∷ []
one_number type arch bytes e =
    rw (one_of_type type bytes e) (ap (λ t. number arch t ∷ []) (take_all (row_of type).size bytes (omega (arith, e))))

abbrev field_by : ℕ → Arch → List ℕ → Field
field_by base arch bytes = record { base = base; arch = arch; bytes = bytes }

-- the number of a field with one value
one_value : (base : ℕ) (arch : Arch) (bytes : List ℕ) (type : BaseType) → base_type base ≡ Some type → length bytes ≡ (row_of type).size →
    (number arch bytes ∷ [] ≡ numbers arch (value_size (field_by base arch bytes)) (count_of (field_by base arch bytes)) bytes)
    × (count_of (field_by base arch bytes) ≡ 1)
one_value base arch bytes type known e =
    let some : count_by (base_type base) bytes ≡ 1 = ap (λ o. count_by o bytes) known ∙ one_of_type type bytes e in (
      sym (ap (λ o. numbers arch (size_by o) (count_by o bytes) bytes) known ∙ one_number type arch bytes e),
      some,
    )

one_text : (notation : Notation) (text : ℕ → List ℕ) (n : ℕ) → text n ≡ numbers_as notation text (n ∷ [])
unfolding numbers_as
one_text notation text n = refl

-- a field with one value shows this value, if it is not a date
one_shown : (notation : Notation) (base : ℕ) (arch : Arch) (bytes : List ℕ) (type : BaseType) →
    base_type base ≡ Some type → IsNumber type → length bytes ≡ (row_of type).size →
    number_as notation type (number arch bytes)
    ≡ values_as notation (number_as notation) (base_type base) (values_of (field_by base arch bytes))
one_shown notation base arch bytes type known is e =
    let one = one_value base arch bytes type known e in
    one_text notation (number_as notation type) (number arch bytes)
    ∙ ap (numbers_as notation (number_as notation type)) one.0
    ∙ number_values notation (number_as notation) (field_by base arch bytes) type known is (λ none. omega (arith, one.1, none))

-- ---- dates

code_by : (b : Bool) (t type : BaseType) (types : List BaseType) (code : ℕ) → ((row_of t).code == code) ≡ b →
    (base_type_in types code ≡ Some type → (row_of type).code ≡ code) → (if b then Some t else base_type_in types code) ≡ Some type →
    (row_of type).code ≡ code
code_by true t type types code is rest e = let same : t ≡ type = cc in rw (← same) (eqb-true _ _ is)
code_by false t type types code is rest e = rest e

code_in : (types : List BaseType) (code : ℕ) (type : BaseType) → base_type_in types code ≡ Some type → (row_of type).code ≡ code
code_in [] code type e = cc
code_in (t ∷ types) code type e = code_by _ t type types code refl (code_in types code type) e

-- a base type byte is the code of its type
code_of : (code : ℕ) (type : BaseType) → base_type code ≡ Some type → (row_of type).code ≡ code
code_of code type e =
    code_in (Enum ∷ Sint8 ∷ Uint8 ∷ Sint16 ∷ Uint16 ∷ Sint32 ∷ Uint32 ∷ String ∷ Float32 ∷ Float64 ∷ Uint8z ∷ Uint16z ∷ Uint32z ∷ Byte ∷ Sint64 ∷ Uint64
    ∷ Uint64z ∷ []) code type e

four_bytes : (n : ℕ) → n % 4 ≡ 0 → n / 4 ≡ 1 → n ≡ 4
four_bytes n rest whole = omega arith

one_by : (n : ℕ) (even : Bool) → (n % 4 == 0) ≡ even → (if (if even then false else true) then 0 else n / 4) ≡ 1 → n ≡ 4
one_by n true is e = four_bytes n (eqb-true _ _ is) e
one_by n false is e = absurd (omega (arith, e))

-- a field of type uint32 with one value has four bytes
has_four : (base : ℕ) (arch : Arch) (bytes : List ℕ) → base ≡ 134 → count_of (field_by base arch bytes) ≡ 1 → length bytes ≡ 4
has_four base arch bytes is one = one_by (length bytes) _ refl (rw is at one)

none_by : (b : Bool) (dates : List ℕ) (n base : ℕ) (arch : Arch) (bytes : List ℕ) → (base == 134) ≡ b →
    (base ≡ 134 → length bytes ≢ 4) → option_and_then calendar_time (value_in Uint32 (field_at n base arch bytes)) ≡ None
none_by false dates n base arch bytes is other = rw is refl
none_by true dates n base arch bytes is other =
    let same : base ≡ 134 = eqb-true _ _ is in
    let none = one-of-other (field_by base arch bytes) (λ one. other same (has_four base arch bytes same one)) in
    rw (is, none) refl

unless : (b : Bool) (o : Option ℕ) → (b ≡ true → o ≡ None) → (if b then o else None) ≡ None
unless true o h = h refl
unless false o h = refl

-- a field that is no single uint32, or has none of these numbers, is no date
no_date : (dates : List ℕ) (n base : ℕ) (arch : Arch) (bytes : List ℕ) →
    (list_any (λ date. date == n) dates ≡ true → base ≡ 134 → length bytes ≢ 4) → date_in dates (field_at n base arch bytes) ≡ None
no_date dates n base arch bytes other = unless _ _ (λ is. none_by _ dates n base arch bytes refl (other is))

-- one that is no date shows its values
values_shown : (notation : Notation) (dates : List ℕ) (n base : ℕ) (arch : Arch) (bytes : List ℕ) →
    (list_any (λ date. date == n) dates ≡ true → base ≡ 134 → length bytes ≢ 4) →
    values_as notation (number_as notation) (base_type base) (values_of (field_by base arch bytes)) ≡ shown_at notation dates n base arch bytes
values_shown notation dates n base arch bytes other =
    ap (λ o. shown_as notation o (field_at n base arch bytes)) (sym (no_date dates n base arch bytes other))

valid_by : (last : Bool) (n : ℕ) → option_and_then calendar_time (if last then None else Some n)
    ≡ (if last then None else if nat_le 268435456 n then Some n else None)
valid_by true n = refl
valid_by false n = refl

date_by : (notation : Notation) (n : ℕ) (late last : Bool) (field : MessageField) (plain : List ℕ) → plain ≡ shown_as notation None field →
    (if late && not last then marked notation (date_text n) else plain)
    ≡ shown_as notation (if last then None else if late then Some n else None) field
date_by notation n true true field plain is = is
date_by notation n true false field plain is = refl
date_by notation n false true field plain is = is
date_by notation n false false field plain is = is

-- a field of one uint32 is a date, if that is a calendar time
date_shown : (notation : Notation) (dates : List ℕ) (n : ℕ) (arch : Arch) (bytes : List ℕ) → list_any (λ date. date == n) dates ≡ true →
    length bytes ≡ 4 → date_of notation (number arch bytes) ≡ shown_at notation dates n 134 arch bytes
unfolding number_as plain_as
date_shown notation dates n arch bytes is long =
    let one = one_value 134 arch bytes Uint32 refl long in
    let whole : take 4 (drop 0 bytes) ≡ bytes = take_all 4 bytes (omega (arith, long)) in
    let found = one-of-one (field_by 134 arch bytes) one.1 ∙ ap (λ t. Some (number arch t)) whole in
    let value = number arch bytes in
    let plain : unsigned_of notation.invalid 4294967295 value ≡ shown_as notation None (field_at n 134 arch bytes) =
    unsigned_shows Uint32 4294967295 notation value refl refl (λ e. cc) (λ e. cc) ∙ one_shown notation 134 arch bytes Uint32 refl tt long in
    let field = field_at n 134 arch bytes in
    rw (is, found)
    (date_by notation value (nat_le 268435456 value) (value == 4294967295) field (unsigned_of notation.invalid 4294967295 value) plain
    ∙ ap (λ o. shown_as notation o field) (sym (valid_by (value == 4294967295) value)))

-- ---- the kind of a field

abbrev is_date : List ℕ → ℕ → Bool
is_date dates n = list_any (λ date. date == n) dates

type_of : (base : ℕ) (type : BaseType) → base_type base ≡ Some type → base ≡ 134 → type ≡ Uint32
type_of base type known same =
    let uint : base_type base ≡ Some Uint32 = rw same refl in
    let is : Some type ≡ Some Uint32 = sym known ∙ uint in
    cc

-- the kind of a field follows from that of its type
pub kind_shows : (dates : List ℕ) (n base size : ℕ) (type : BaseType) (kind : Kind) →
    base_type base ≡ Some type → size ≡ (row_of type).size → IsKindOf (is_date dates n) type kind → IsKind dates n base size kind
kind_shows dates n base size type (Unsigned invalid) known e h =
    record {
      sized = rw e (value_size_of type);
      shows = λ notation arch bytes long held.
          h.0.shows notation (number arch bytes) tt ∙ one_shown notation base arch bytes type known h.0.numbers (long ∙ e)
          ∙ values_shown notation dates n base arch bytes (λ is same. absurd (h.1 is (type_of base type known same)));
    }
kind_shows dates n base size type (Signed invalid) known e h =
    record {
      sized = (rw e (value_size_of type), ap (λ s. 256 ^ s) e ∙ h.2);
      shows = λ notation arch bytes long held.
          h.0.shows notation (number arch bytes) (rw e at held) ∙ one_shown notation base arch bytes type known h.0.numbers (long ∙ e)
          ∙ values_shown notation dates n base arch bytes (λ is same. absurd (h.1 is (type_of base type known same)));
    }
kind_shows dates n base size type Date known e h =
    let code : base ≡ 134 = sym (code_of base type known) ∙ ap (λ t. (row_of t).code) h.1 in
    let four : size ≡ 4 = e ∙ ap (λ t. (row_of t).size) h.1 in
    record {
      sized = four;
      shows = λ notation arch bytes long held. rw code (date_shown notation dates n arch bytes h.0 (long ∙ four));
    }
kind_shows dates n base size type Other known e h =
    record {
      sized = tt;
      shows = λ notation arch bytes long held.
          values_shown notation dates n base arch bytes (λ is same. absurd (h (type_of base type known same)));
    }

-- a field of another size, or of no type, shows its values
pub other_shows : (dates : List ℕ) (n base size : ℕ) → (base ≡ 134 → size ≢ 4) → IsKind dates n base size Other
other_shows dates n base size other = record {
  sized = tt;
  shows = λ notation arch bytes long held.
      values_shown notation dates n base arch bytes (λ is same four. other same (sym long ∙ four));
}

pub no_type : (base : ℕ) → base_type base ≡ None → base ≡ 134 → ⊥
no_type base none same = let known : base_type base ≡ Some Uint32 = rw same refl in cc

pub other_size : (base size : ℕ) (type : BaseType) → base_type base ≡ Some type → (size ≡ (row_of type).size → ⊥) → base ≡ 134 → size ≢ 4
other_size base size type known other same four =
    other (four ∙ ap (λ t. (row_of t).size) (sym (type_of base type known same)))

-- ---- columns

pub columns_length : (utc : Bool) (global : ℕ) (fields : List FieldDefinition) (columns : List Column) →
    AreColumns utc global fields columns → length columns ≡ length fields
columns_length utc global [] [] h = refl
columns_length utc global [] (column ∷ columns) h = absurd h
columns_length utc global (field ∷ fields) [] h = absurd h
columns_length utc global (field ∷ fields) (column ∷ columns) h = ap (λ n. suc n) (columns_length utc global fields columns h.1)

-- the fields that are left, after those that have columns
pub left_over : (done fields : List FieldDefinition) (all : List FieldDefinition) → all ≡ done ++ fields → length fields < 1 → all ≡ done
left_over done [] all e lt = e ∙ append-nil done
left_over done (field ∷ fields) all e lt = absurd (omega arith)

-- the next of them
pub next_field : (done fields : List FieldDefinition) (all : List FieldDefinition) (d : FieldDefinition) → all ≡ done ++ fields →
    1 ≤ length fields → all ≡ (done ++ get_or fields 0 d ∷ []) ++ take (length fields - 1) (drop 1 fields)
next_field done [] all d e lt = absurd (omega arith)
next_field done (field ∷ fields) all d e lt =
    let rest : take (length (field ∷ fields) - 1) fields ≡ fields = take_all _ fields (omega arith) in
    rw (rest, append_assoc) e

-- the columns with one more field's
pub columns_more : (utc : Bool) (global : ℕ) (fields : List FieldDefinition) (columns : List Column) (field : FieldDefinition)
    (column : Column) → AreColumns utc global fields columns → IsColumn utc global field column →
    AreColumns utc global (fields ++ field ∷ []) (columns ++ column ∷ [])
columns_more utc global [] [] field column h k = (k, tt)
columns_more utc global [] (c ∷ columns) field column h k = absurd h
columns_more utc global (f ∷ fields) [] field column h k = absurd h
columns_more utc global (f ∷ fields) (c ∷ columns) field column h k =
    (h.0, columns_more utc global fields columns field column h.1 k)

pub columns_size : (utc : Bool) (global : ℕ) (fields : List FieldDefinition) (columns : List Column) →
    AreColumns utc global fields columns → sum_by (λ c. c.size) columns ≡ sum_by (λ f. f.size) fields
columns_size utc global [] [] h = refl
columns_size utc global [] (column ∷ columns) h = absurd h
columns_size utc global (field ∷ fields) [] h = absurd h
columns_size utc global (field ∷ fields) (column ∷ columns) h =
    let rest = columns_size utc global fields columns h.1 in
    omega (arith, rest, h.0.size, sum_by-cons (λ (c : Column). c.size) column columns, sum_by-cons (λ (f : FieldDefinition). f.size) field fields)

-- ---- the first of several columns, and the others

abbrev others : List Column → List Column
others columns = take (length columns - 1) (drop 1 columns)

pub first_size : (columns : List Column) (column : Column) → 1 ≤ length columns → column ≡ get_or columns 0 column →
    sum_by (λ c. c.size) columns ≡ column.size + sum_by (λ c. c.size) (others columns)
first_size [] column some is = absurd (omega arith)
first_size (c ∷ columns) column some is =
    let rest : others (c ∷ columns) ≡ columns = take_all _ columns (omega arith) in
    rw (is, rest) (sum_by-cons (λ (c : Column). c.size) c columns)

-- the content after the first column, and after all of them
pub first_after : (columns : List Column) (column : Column) (content after : List ℕ) (n : ℕ) → 1 ≤ length columns → column ≡ get_or columns 0 column →
    after ≡ drop n content → n ≡ column.size →
    drop (sum_by (λ c. c.size) (others columns)) after ≡ drop (sum_by (λ c. c.size) columns) content
first_after columns column content after n some is back size =
    ap (drop (sum_by (λ c. c.size) (others columns))) (back ∙ ap (λ k. drop k content) size)
    ∙ drop-drop (sum_by (λ c. c.size) (others columns)) column.size content
    ∙ ap (λ k. drop k content) (sym (first_size columns column some is))

pub no_after : (columns : List Column) (content : List ℕ) → length columns < 1 → drop (sum_by (λ c. c.size) columns) content ≡ content
no_after [] content none = refl
no_after (column ∷ columns) content none = absurd (omega arith)

-- ---- plans

pub plan_size : (empty : Bool) (d : Definition) (plan : Plan) (columns : List Column) (developer : List DeveloperFieldDefinition) →
    IsPlanOf empty d plan columns developer → sum_by (λ c. c.size) columns ≡ fields_size d
plan_size empty d plan columns developer h =
    columns_size plan.utc d.global (shown empty has_size d.fields.items) columns h.fields ∙ shown_size empty d.fields.items

-- a plan for the definition of the fields that are shown is one for the whole definition
shown_plan : (empty : Bool) (d own : Definition) (plan : Plan) (columns : List Column) (developer : List DeveloperFieldDefinition) →
    IsShown empty d own → IsPlanOf true own plan columns developer → IsPlanOf empty d plan columns developer
shown_plan empty d own plan columns developer is h = record {
  arch = h.arch ∙ is.arch;
  global = h.global ∙ is.global;
  name = h.name ∙ ap (λ g. codes " " ++ message_name g) is.global;
  time = rw is.global at h.time;
  fields = rw (is.global, is.fields) at h.fields;
  developer = h.developer ∙ is.developer;
}

pub shown_plan_in : (empty utc : Bool) (d own : Definition) (plan : Plan) (columns : List Column)
    (developer : List DeveloperFieldDefinition) → IsShown empty d own → IsPlanIn columns developer utc true own plan →
    IsPlanIn columns developer utc empty d plan
shown_plan_in empty utc d own plan columns developer is h = record {
  dated = h.dated;
  order = h.order;
  inside = h.inside;
  developer_order = h.developer_order;
  developer_inside = h.developer_inside;
  is = shown_plan empty d own plan _ _ is h.is;
}

-- ---- columns in the shared row

-- a part of a row stays when more is added to the row
part_in_more : {A : Type 0} (row more : List A) (first end : ℕ) → first ≤ end → end ≤ length row →
    slice_range (row ++ more) first end ≡ slice_range row first end
part_in_more row more first end order inside =
    ap (λ t. take (end - first) t) (drop-append-le first row more (omega (arith, order, inside)))
    ∙ take-append-le (end - first) (drop first row) more (omega (arith, order, inside, length-drop first row))

-- a plan stays when more columns and developer fields are added after its own
plan_in_more : (row more : List Column) (developer others : List DeveloperFieldDefinition) (utc empty : Bool) (d : Definition) (plan : Plan) →
    IsPlanIn row developer utc empty d plan → IsPlanIn (row ++ more) (developer ++ others) utc empty d plan
plan_in_more row more developer others utc empty d plan h = record {
  dated = h.dated;
  order = h.order;
  inside = omega (arith, h.inside, length-append row more);
  developer_order = h.developer_order;
  developer_inside = omega (arith, h.developer_inside, length-append developer others);
  is = rw (
    part_in_more row more plan.first plan.end h.order h.inside,
    part_in_more developer others plan.developer_first plan.developer_end h.developer_order h.developer_inside,
  ) h.is;
}

-- ---- plans, each at the place of its local number

same_or_not : (a b : ℕ) → (a ≡ b) ⊎ (a ≢ b)
same_or_not a b =
    elim (eq-zero-or-pos ((a - b) + (b - a))) [
      | inl none ↦ inl (omega arith)
      | inr some ↦ inr (λ e. omega (arith, some, e))
    ]

-- none of sixteen slots has a plan
pub none_there : (slots : List (Option Plan)) (local : ℕ) → AllOfLen (λ slot. slot ≡ None) slots 16 → get_or slots local None ≡ None
none_there slots local h =
    elim (cases_lt local 16) [
      | inl lt ↦ h.at local None lt
      | inr ge ↦ get_or_past slots local None (omega (arith, ge, h.long))
    ]

pub plans_none : (definition_for : ℕ → Option Definition) (plans : Plans) → ((local : ℕ) → get_or plans.slots local None ≡ None) →
    ArePlansFor definition_for plans
plans_none definition_for plans none local d plan there has = let gone = none local in cc

-- a plan at a place that was just set is the one put there
set_there : (slots : List (Option Plan)) (k : ℕ) (slot : Option Plan) (plan : Plan) → get_or (set slots k slot) k None ≡ Some plan → slot ≡ Some plan
set_there slots k slot plan there =
    elim (cases_lt k (length slots)) [
      | inl lt ↦ sym (get_or-set_same slots k slot None lt) ∙ there
      | inr ge ↦ let gone = get_or_past (set slots k slot) k None (omega (arith, ge, length-set slots k slot)) in cc
    ]

-- after a definition its local number has no plan
pub plans_forget : (definition_for : ℕ → Option Definition) (d : Definition) (plans : Plans) (k : ℕ) → k ≡ d.local →
    ArePlansFor definition_for plans → ArePlansFor (in_force_after (Defines d) definition_for) (record plans { slots = set plans.slots k None })
plans_forget definition_for d plans k place h local definition plan there has =
    elim (same_or_not local k) [
      | inl here ↦
          let gone : None ≡ Some plan =
          set_there plans.slots k None plan (ap (λ i. get_or (set plans.slots k None) i None) (sym here) ∙ there) in
          cc
      | inr other ↦
          let apart : d.local ≢ local = λ e. other (sym e ∙ sym place) in
          let no : (d.local == local) ≡ false = search rules in
          h local definition plan (sym (get_or-set_other plans.slots k local None None other) ∙ there) (rw no at has)
    ]

-- a plan that was made, with its columns and developer fields added after the others
pub plans_set : (definition_for : ℕ → Option Definition) (own : ℕ) (d : Definition) (plans : Plans) (columns : ArrayVec Column)
    (developer : ArrayVec DeveloperFieldDefinition) (plan : Plan) (k : ℕ) (more : List Column) (fields : List DeveloperFieldDefinition) →
    k ≡ own → definition_for own ≡ Some d → IsPlanIn columns.items developer.items plans.utc plans.empty d plan →
    columns.items ≡ plans.columns.items ++ more → developer.items ≡ plans.developer.items ++ fields → ArePlansFor definition_for plans →
    ArePlansFor definition_for (record plans { slots = set plans.slots k (Some plan); columns = columns; developer = developer })
plans_set definition_for own d plans columns developer plan k more fields place found good row in_force_after h local definition other there has =
    elim (same_or_not local k) [
      | inl here ↦
          let one : Some plan ≡ Some other =
          set_there plans.slots k (Some plan) other (ap (λ i. get_or (set plans.slots k (Some plan)) i None) (sym here) ∙ there) in
          let same : Some d ≡ Some definition = sym found ∙ ap definition_for (sym place ∙ sym here) ∙ has in
          let is_plan : plan ≡ other = cc in
          let is_definition : d ≡ definition = cc in
          rw (← is_plan, ← is_definition) good
      | inr apart ↦
          let kept = sym (get_or-set_other plans.slots k local (Some plan) None apart) ∙ there in
          rw (row, in_force_after)
          (plan_in_more plans.columns.items more plans.developer.items fields plans.utc plans.empty definition other (h local definition other kept has))
    ]

-- the plan of a local number that has one
plan_by : (definition_for : ℕ → Option Definition) (plans : Plans) (local : ℕ) (d : Definition) (o : Option Plan) →
    get_or plans.slots local None ≡ o → IsSome o → definition_for local ≡ Some d → ArePlansFor definition_for plans → IsPlanAt plans local d
plan_by definition_for plans local d None there bad has h = cc
plan_by definition_for plans local d (Some plan) there some has h = record { plan = plan; there = there; is = h local d plan there has }

pub plan_at : (definition_for : ℕ → Option Definition) (plans : Plans) (local : ℕ) (d : Definition) → IsSome (get_or plans.slots local None) →
    definition_for local ≡ Some d → ArePlansFor definition_for plans → IsPlanAt plans local d
plan_at definition_for plans local d some has h = plan_by definition_for plans local d _ refl some has h

pub plan_got : (definition_for : ℕ → Option Definition) (plans : Plans) (local : ℕ) (d : Definition) (plan : Plan) (columns : List Column)
    (developer : List DeveloperFieldDefinition) → get_or plans.slots local None ≡ Some plan →
    columns ≡ slice_range plans.columns.items plan.first plan.end →
    developer ≡ slice_range plans.developer.items plan.developer_first plan.developer_end → definition_for local ≡ Some d →
    ArePlansFor definition_for plans → IsPlanOf plans.empty d plan columns developer × (plan.utc ≡ plans.utc)
plan_got definition_for plans local d plan columns developer there is also has h =
    let own = h local d plan there has in (rw (is, also) own.is, own.dated)
