-- The cells of strings and of several values, by the cases that the code distinguishes: for `string`, `array` and `cell`.
use Rattle.std.proofs.Common.{◌≡◌, ℕ, ◌+◌, ◌/◌, ◌%◌, ◌<◌, ◌≤◌, ◌==◌, Bool, true, false, List, [], ◌∷◌, ◌++◌, length, get_or, drop, refl, sym, ap, ◌∙◌, codes, Option, Some, None, if◌then◌else◌, eq-eqb, arith}
use Rattle.std.specs.Prelude.{◌||◌, ◌&&◌, ◌↔◌, IsSome}
use Rattle.std.specs.List.{flat_map, list_all, list_any, before_first}
use Rattle.std.specs.Option.{is_some}
use Rattle.std.specs.Str.{is_utf8, IsUtf8}
use Rattle.std.proofs.lemmas.Bool.{eqb-true}
use Rattle.std.proofs.lemmas.List.{at_drop_more, at_drop_all}
use Rattle.std.proofs.lemmas.Str.{IsUtf8-from_is_utf8, is_utf8-from_IsUtf8}
use Rattle.std.specs.Float.{binary32, binary64}
use Rattle.fit_base.specs.declared.order.Arch.{Arch}
use Rattle.fit_base.specs.declared.order.Arch.TheVariants.{Little, Big}
use Rattle.fit_base.specs.Number.{number}
use Rattle.fit_base.specs.declared.base.BaseType.{BaseType}
use Rattle.fit_base.specs.declared.base.BaseType.TheVariants.{Enum, Sint8, Uint8, Sint16, Uint16, Sint32, Uint32, String, Float32, Float64, Uint8z, Uint16z, Uint32z, Byte, Sint64, Uint64, Uint64z}
use Rattle.fit_base.specs.Base.{base_type}
use Rattle.fit_base.specs.Value.{Field, Values, Numbers, Raw, size_by, raw_by, value_size, is_raw, count_of, values_of, numbers}
use Rattle.fit_table.specs.declared.unit.Unit.{Unit as AnyUnit}
use Rattle.fit_table.specs.Tokens.{Text, float_tokens}
use Rattle.fit_table.specs.Cells.{byte_cell, is_special, marks_of, text_cell, string_cell, is_none, whole_cell, value_tokens, values_from, values_tokens, empty_among, known_tokens, field_tokens}

-- ---- strings

utf8_by : {X : Type 0} (o : Option X) (bytes : List ℕ) (b : Bool) → is_utf8 bytes ≡ b → IsSome o ↔ IsUtf8 bytes → is_some o ≡ b
utf8_by (Some x) bytes true e h = refl
utf8_by (Some x) bytes false e h = let is : is_utf8 bytes ≡ true = is_utf8-from_IsUtf8 bytes (h.0 refl) in cc
utf8_by None bytes true e h = h.1 (IsUtf8-from_is_utf8 bytes e)
utf8_by None bytes false e h = refl

-- bytes are a text if and only if they are UTF-8
pub utf8_is : {X : Type 0} (o : Option X) (bytes : List ℕ) → IsSome o ↔ IsUtf8 bytes → is_some o ≡ is_utf8 bytes
utf8_is o bytes h = utf8_by o bytes (is_utf8 bytes) refl h

text_none : (empty text : List ℕ) → (length text == 0) ≡ true → empty ≡ text_cell empty text
text_none empty [] none = refl
text_none empty (byte ∷ text) none = absurd (omega (arith, eqb-true _ _ none))

text_some : (empty text : List ℕ) → (length text == 0) ≡ false →
    marks_of text ++ (flat_map (byte_cell (is_utf8 text)) text ++ marks_of text) ≡ text_cell empty text
text_some empty [] some = cc
text_some empty (byte ∷ text) some = refl

pub string_none : (empty bytes text : List ℕ) → text ≡ before_first (λ byte. byte == 0) bytes → (length text == 0) ≡ true → empty ≡ string_cell empty bytes
unfolding string_cell
string_none empty bytes text e none = text_none empty text none ∙ ap (text_cell empty) e

pub string_some : (empty bytes text marks : List ℕ) (in_utf8 : Bool) → text ≡ before_first (λ byte. byte == 0) bytes →
    in_utf8 ≡ is_utf8 (before_first (λ byte. byte == 0) bytes) → marks ≡ marks_of text → (length text == 0) ≡ false →
    marks ++ (flat_map (byte_cell in_utf8) text ++ marks) ≡ string_cell empty bytes
unfolding string_cell
string_some empty bytes text marks in_utf8 e is_text is_marks some =
    ap (λ m. m ++ (flat_map (byte_cell in_utf8) text ++ m)) is_marks
    ∙ ap (λ b. marks_of text ++ (flat_map (byte_cell b) text ++ marks_of text)) (is_text ∙ ap is_utf8 (sym e))
    ∙ text_some empty text some ∙ ap (text_cell empty) e

-- a byte that needs quotation marks, among those that are left
pub special_here : (text : List ℕ) (i : ℕ) → i < length text → is_special (get_or text i 0) ≡ true → list_any is_special (drop i text) ≡ true
special_here text i below special =
    at_drop_more (list_any is_special) text i 0 below ∙ ap (λ b. b || list_any is_special (drop (i + 1) text)) special

pub special_later : (text : List ℕ) (i : ℕ) → i < length text → is_special (get_or text i 0) ≡ false →
    list_any is_special (drop i text) ≡ list_any is_special (drop (i + 1) text)
special_later text i below plain =
    at_drop_more (list_any is_special) text i 0 below ∙ ap (λ b. b || list_any is_special (drop (i + 1) text)) plain

pub special_none : (text : List ℕ) (i : ℕ) → length text ≤ i → list_any is_special (drop i text) ≡ false
special_none text i past = at_drop_all (list_any is_special) text i past

-- ---- the loop over the values

pub value_next : (empty : List ℕ) (unit : AnyUnit) (type : BaseType) (front : List ℕ) (ns : List ℕ) (i n : ℕ) → i < length ns → get_or ns i 0 ≡ n →
    values_from empty unit type front (drop i ns)
    ≡ Text front ∷ (value_tokens empty unit type n ++ values_from empty unit type (codes "|") (drop (i + 1) ns))
value_next empty unit type front ns i n below is =
    at_drop_more (values_from empty unit type front) ns i 0 below
    ∙ ap (λ m. Text front ∷ (value_tokens empty unit type m ++ values_from empty unit type (codes "|") (drop (i + 1) ns))) is

pub value_last : (empty : List ℕ) (unit : AnyUnit) (type : BaseType) (front : List ℕ) (ns : List ℕ) (i : ℕ) → length ns ≤ i →
    values_from empty unit type front (drop i ns) ≡ []
value_last empty unit type front ns i past = at_drop_all (values_from empty unit type front) ns i past

-- a number that is a value, among those that are left
pub some_left : (type : BaseType) (ns : List ℕ) (i n : ℕ) → i < length ns → get_or ns i 0 ≡ n → is_none type n ≡ false →
    list_all (is_none type) (drop i ns) ≡ false
some_left type ns i n below is some =
    at_drop_more (list_all (is_none type)) ns i 0 below
    ∙ ap (λ b. b && list_all (is_none type) (drop (i + 1) ns)) (ap (is_none type) is ∙ some)

pub none_left : (type : BaseType) (ns : List ℕ) (i n : ℕ) → i < length ns → get_or ns i 0 ≡ n → is_none type n ≡ true →
    list_all (is_none type) (drop i ns) ≡ list_all (is_none type) (drop (i + 1) ns)
none_left type ns i n below is none =
    at_drop_more (list_all (is_none type)) ns i 0 below
    ∙ ap (λ b. b && list_all (is_none type) (drop (i + 1) ns)) (ap (is_none type) is ∙ none)

pub all_left : (type : BaseType) (ns : List ℕ) (i : ℕ) → length ns ≤ i → list_all (is_none type) (drop i ns) ≡ true
all_left type ns i past = at_drop_all (list_all (is_none type)) ns i past

-- ---- one value

pub float32_tokens : (empty : List ℕ) (unit : AnyUnit) (type : BaseType) (n m : ℕ) → type ≡ Float32 → m ≡ n →
    float_tokens [] binary32 m ≡ value_tokens empty unit type n
unfolding value_tokens
float32_tokens empty unit type n m is same = rw (is, same) refl

pub float64_tokens : (empty : List ℕ) (unit : AnyUnit) (type : BaseType) (n m : ℕ) → type ≡ Float64 → m ≡ n →
    float_tokens [] binary64 m ≡ value_tokens empty unit type n
unfolding value_tokens
float64_tokens empty unit type n m is same = rw (is, same) refl

pub whole_tokens : (empty : List ℕ) (unit : AnyUnit) (type : BaseType) (n : ℕ) → (type ≡ Float32 → ⊥) → (type ≡ Float64 → ⊥) →
    Text (whole_cell empty unit type n) ∷ [] ≡ value_tokens empty unit type n
unfolding value_tokens
whole_tokens empty unit Float32 n a b = absurd (a refl)
whole_tokens empty unit Float64 n a b = absurd (b refl)
whole_tokens empty unit _ n a b = refl

-- ---- all values of a field

pub values_none : (empty : List ℕ) (unit : AnyUnit) (type : BaseType) (ns : List ℕ) → list_all (is_none type) ns ≡ true →
    Text empty ∷ [] ≡ values_tokens empty unit type ns
unfolding values_tokens
values_none empty unit type ns e = rw e refl

pub values_some : (empty : List ℕ) (unit : AnyUnit) (type : BaseType) (ns : List ℕ) → list_all (is_none type) ns ≡ false →
    values_from (empty_among empty ns) unit type [] ns ≡ values_tokens empty unit type ns
unfolding values_tokens
values_some empty unit type ns e = rw e refl

-- ---- fields

raw_by_type : (empty : List ℕ) (unit : AnyUnit) (o : Option BaseType) (b : Bool) (bytes ns : List ℕ) → b ≡ true →
    Text empty ∷ [] ≡ field_tokens empty unit o (if b then Raw bytes else Numbers ns)
raw_by_type empty unit None b bytes ns e = refl
raw_by_type empty unit (Some type) b bytes ns e = rw e refl

pub raw_field : (empty : List ℕ) (unit : AnyUnit) (field : Field) → is_raw field ≡ true →
    Text empty ∷ [] ≡ field_tokens empty unit (base_type field.base) (values_of field)
raw_field empty unit field e = raw_by_type empty unit (base_type field.base) (is_raw field) field.bytes _ e

pub unknown_field : (empty : List ℕ) (unit : AnyUnit) (o : Option BaseType) (values : Values) → o ≡ None →
    Text empty ∷ [] ≡ field_tokens empty unit o values
unknown_field empty unit o values e = rw e refl

known_by : (empty : List ℕ) (unit : AnyUnit) (o : Option BaseType) (type : BaseType) (b : Bool) (bytes ns : List ℕ) → o ≡ Some type → b ≡ false →
    known_tokens empty unit type ns ≡ field_tokens empty unit o (if b then Raw bytes else Numbers ns)
known_by empty unit o type b bytes ns e f = rw (e, f) refl

known_field : (empty : List ℕ) (unit : AnyUnit) (field : Field) (type : BaseType) → base_type field.base ≡ Some type → is_raw field ≡ false →
    known_tokens empty unit type (numbers field.arch (value_size field) (count_of field) field.bytes)
    ≡ field_tokens empty unit (base_type field.base) (values_of field)
known_field empty unit field type e f = known_by empty unit (base_type field.base) type (is_raw field) field.bytes _ e f

known_values : (empty : List ℕ) (unit : AnyUnit) (type : BaseType) (ns : List ℕ) → (type ≡ String → ⊥) →
    values_tokens empty unit type ns ≡ known_tokens empty unit type ns
known_values empty unit String ns h = absurd (h refl)
known_values empty unit _ ns h = refl

pub values_field : (empty : List ℕ) (unit : AnyUnit) (field : Field) (type : BaseType) → base_type field.base ≡ Some type → (type ≡ String → ⊥) →
    is_raw field ≡ false → values_tokens empty unit type (numbers field.arch (value_size field) (count_of field) field.bytes)
    ≡ field_tokens empty unit (base_type field.base) (values_of field)
values_field empty unit field type e h f = known_values empty unit type _ h ∙ known_field empty unit field type e f

one_byte : (arch : Arch) (byte : ℕ) → number arch (byte ∷ []) ≡ byte
one_byte Little byte = omega arith
one_byte Big byte = omega arith

numbers_bytes : (arch : Arch) (bytes : List ℕ) → numbers arch 1 (length bytes) bytes ≡ bytes
numbers_bytes arch [] = refl
numbers_bytes arch (byte ∷ bytes) = rw (one_byte arch byte, numbers_bytes arch bytes) refl

string_numbers : (arch : Arch) (bytes : List ℕ) →
    numbers arch 1 (if raw_by (Some String) (length bytes) then 0 else length bytes / 1) bytes ≡ bytes
string_numbers arch bytes =
    let rest : (length bytes % 1 == 0) ≡ true = eq-eqb _ _ (omega arith) in
    let whole : length bytes / 1 ≡ length bytes = omega arith in
    rw (rest, whole) (numbers_bytes arch bytes)

pub string_bytes : (field : Field) → base_type field.base ≡ Some String →
    numbers field.arch (value_size field) (count_of field) field.bytes ≡ field.bytes
string_bytes field e =
    ap (λ o. numbers field.arch (size_by o) (if raw_by o (length field.bytes) then 0 else length field.bytes / size_by o) field.bytes) e
    ∙ string_numbers field.arch field.bytes

pub string_field : (empty : List ℕ) (unit : AnyUnit) (field : Field) → base_type field.base ≡ Some String → is_raw field ≡ false →
    Text (string_cell empty field.bytes) ∷ [] ≡ field_tokens empty unit (base_type field.base) (values_of field)
string_field empty unit field e f =
    ap (λ bytes. Text (string_cell empty bytes) ∷ []) (sym (string_bytes field e)) ∙ known_field empty unit field String e f

-- ---- a field without bytes

no_bytes_by : (empty : List ℕ) (unit : AnyUnit) (arch : Arch) (o : Option BaseType) →
    Text empty ∷ []
    ≡ field_tokens empty unit o (if raw_by o 0 then Raw [] else Numbers (numbers arch (size_by o) (if raw_by o 0 then 0 else 0 / size_by o) []))
unfolding values_tokens string_cell
no_bytes_by empty unit arch None = refl
no_bytes_by empty unit arch (Some Enum) = refl
no_bytes_by empty unit arch (Some Sint8) = refl
no_bytes_by empty unit arch (Some Uint8) = refl
no_bytes_by empty unit arch (Some Sint16) = refl
no_bytes_by empty unit arch (Some Uint16) = refl
no_bytes_by empty unit arch (Some Sint32) = refl
no_bytes_by empty unit arch (Some Uint32) = refl
no_bytes_by empty unit arch (Some String) = refl
no_bytes_by empty unit arch (Some Float32) = refl
no_bytes_by empty unit arch (Some Float64) = refl
no_bytes_by empty unit arch (Some Uint8z) = refl
no_bytes_by empty unit arch (Some Uint16z) = refl
no_bytes_by empty unit arch (Some Uint32z) = refl
no_bytes_by empty unit arch (Some Byte) = refl
no_bytes_by empty unit arch (Some Sint64) = refl
no_bytes_by empty unit arch (Some Uint64) = refl
no_bytes_by empty unit arch (Some Uint64z) = refl

pub no_bytes : (empty : List ℕ) (unit : AnyUnit) (base : ℕ) (arch : Arch) →
    Text empty ∷ [] ≡ field_tokens empty unit (base_type base) (values_of (record { base = base; arch = arch; bytes = [] }))
no_bytes empty unit base arch = no_bytes_by empty unit arch (base_type base)
