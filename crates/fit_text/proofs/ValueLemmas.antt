-- How values are written, by the cases that the code distinguishes: for `value`.
use Rattle.std.proofs.Common.{◌≡◌, ◌≢◌, ℕ, zero, suc, ◌+◌, ◌/◌, ◌%◌, ◌<◌, ◌≤◌, ◌==◌, Bool, true, false, List, [], ◌∷◌, ◌++◌, length, get_or, take, drop, append_assoc, add-zero, refl, sym, ap, ◌∙◌, eq-eqb, codes, decimal, Option, Some, None, arith, rules, if◌then◌else◌}
use Rattle.std.specs.Prelude.{◌||◌, ◌&&◌, ◌↔◌, IsSome, nat_le}
use Rattle.std.proofs.lemmas.List.{at_drop_more, at_drop_all}
use Rattle.std.proofs.lemmas.Str.{IsUtf8-from_is_utf8, is_utf8-from_IsUtf8}
use Rattle.std.specs.Fmt.{signed_decimal}
use Rattle.std.specs.Int.{to_be_bytes, w64}
use Rattle.std.specs.List.{flat_map, list_all, before_first, join_by}
use Rattle.std.specs.Option.{is_some}
use Rattle.std.specs.Str.{is_utf8, IsUtf8}
use Rattle.fit_base.specs.declared.order.Arch.{Arch}
use Rattle.fit_base.specs.declared.order.Arch.TheVariants.{Little, Big}
use Rattle.fit_base.specs.declared.base.BaseType.{BaseType}
use Rattle.fit_base.specs.declared.base.BaseType.TheVariants.{Float32, Float64, String, Byte}
use Rattle.fit_base.specs.Number.{twos_complement}
use Rattle.fit_base.specs.Base.{row_of, base_type, has_sign}
use Rattle.fit_base.specs.Value.{Field, Numbers, Raw, raw_by, size_by, value_size, is_raw, count_of, values_of, unsigned_at, signed_at, numbers}
use Rattle.fit_text.specs.Notation.{Notation}
use Rattle.fit_text.specs.Values.{hex_byte, hex_text, is_plain, string_byte, string_as, bytes_as, byte_as, whole_text, plain_as, number_as, numbers_as, IsNumber, some_as, values_as}

-- ---- bytes

pub hex_none : [] ≡ hex_text []
unfolding hex_text
hex_none = refl

pub hex_some : (bytes : List ℕ) → 0 < length bytes → codes "0x" ++ flat_map hex_byte bytes ≡ hex_text bytes
unfolding hex_text
hex_some [] some = absurd (omega arith)
hex_some (byte ∷ bytes) some = refl

pub marked_parts : (mark text : List ℕ) → mark ++ (text ++ mark) ≡ mark ++ text ++ mark
marked_parts mark text = sym (append_assoc mark text mark)

pub byte_invalid : (notation : Notation) (bytes : List ℕ) → list_all (λ byte. byte == 255) bytes ≡ true → notation.invalid ≡ byte_as notation bytes
unfolding byte_as
byte_invalid notation bytes e = rw e refl

pub byte_valid : (notation : Notation) (bytes : List ℕ) → list_all (λ byte. byte == 255) bytes ≡ false → bytes_as notation bytes ≡ byte_as notation bytes
unfolding byte_as
byte_valid notation bytes e = rw e refl

-- ---- strings

utf8_by : {X : Type 0} (o : Option X) (bytes : List ℕ) (b : Bool) → is_utf8 bytes ≡ b → IsSome o ↔ IsUtf8 bytes → is_some o ≡ b
utf8_by (Some x) bytes true e h = refl
utf8_by (Some x) bytes false e h = let is : is_utf8 bytes ≡ true = is_utf8-from_IsUtf8 bytes (h.0 refl) in cc
utf8_by None bytes true e h = h.1 (IsUtf8-from_is_utf8 bytes e)
utf8_by None bytes false e h = refl

-- bytes are a text if and only if they are UTF-8
pub utf8_is : {X : Type 0} (o : Option X) (bytes : List ℕ) → IsSome o ↔ IsUtf8 bytes → is_some o ≡ is_utf8 bytes
utf8_is o bytes h = utf8_by o bytes (is_utf8 bytes) refl h

pub byte_whole : (escape : List ℕ) (in_utf8 : Bool) (byte : ℕ) → (is_plain byte || (in_utf8 && nat_le 128 byte)) ≡ true →
    byte ∷ [] ≡ string_byte escape in_utf8 byte
unfolding string_byte
byte_whole escape in_utf8 byte e = rw e refl

pub byte_escaped : (escape : List ℕ) (in_utf8 : Bool) (byte : ℕ) → (is_plain byte || (in_utf8 && nat_le 128 byte)) ≡ false →
    escape ++ hex_byte byte ≡ string_byte escape in_utf8 byte
unfolding string_byte
byte_escaped escape in_utf8 byte e = rw e refl

pub string_parts : (notation : Notation) (bytes text : List ℕ) (in_utf8 : Bool) → text ≡ before_first (λ byte. byte == 0) bytes →
    in_utf8 ≡ (notation.utf8 && is_utf8 (before_first (λ byte. byte == 0) bytes)) →
    codes "\"" ++ (flat_map (string_byte notation.escape in_utf8) text ++ codes "\"") ≡ string_as notation bytes
unfolding string_as
string_parts notation bytes text in_utf8 is coded = rw (is, coded) refl

-- ---- numbers

pub whole_signed : (type : BaseType) (n : ℕ) → has_sign type ≡ true → signed_decimal (twos_complement (row_of type).size n) ≡ whole_text type n
unfolding whole_text
whole_signed type n e = rw e refl

pub whole_signed_at : (type : BaseType) (field : Field) (i : ℕ) → base_type field.base ≡ Some type → has_sign type ≡ true →
    signed_decimal (signed_at field i) ≡ whole_text type (unsigned_at field i)
whole_signed_at type field i known e =
    ap (λ o. signed_decimal (twos_complement (size_by o) (unsigned_at field i))) known ∙ whole_signed type _ e

pub whole_unsigned : (type : BaseType) (n : ℕ) → has_sign type ≡ false → decimal n ≡ whole_text type n
unfolding whole_text
whole_unsigned type n e = rw e refl

pub plain_float32 : (notation : Notation) (type : BaseType) (n : ℕ) (bytes : List ℕ) → type ≡ Float32 → bytes ≡ to_be_bytes w64 n →
    bytes_as notation (take 4 (drop 4 bytes)) ≡ plain_as notation type n
unfolding plain_as
plain_float32 notation type n bytes e h = rw (e, h) refl

pub plain_float64 : (notation : Notation) (type : BaseType) (n : ℕ) (bytes : List ℕ) → type ≡ Float64 → bytes ≡ to_be_bytes w64 n →
    bytes_as notation bytes ≡ plain_as notation type n
unfolding plain_as
plain_float64 notation type n bytes e h = rw (e, h) refl

-- a type with a sign is not a float
pub plain_signed : (notation : Notation) (type : BaseType) (n : ℕ) → has_sign type ≡ true → whole_text type n ≡ plain_as notation type n
unfolding plain_as
plain_signed notation Float32 n e = cc
plain_signed notation Float64 n e = cc
plain_signed notation type n e = refl

pub plain_whole : (notation : Notation) (type : BaseType) (n : ℕ) → type ≢ Float32 → type ≢ Float64 →
    whole_text type n ≡ plain_as notation type n
unfolding plain_as
plain_whole notation Float32 n no_32 no_64 = absurd (no_32 refl)
plain_whole notation Float64 n no_32 no_64 = absurd (no_64 refl)
plain_whole notation type n no_32 no_64 = refl

pub number_same : (notation : Notation) (type : BaseType) (n : ℕ) → n ≡ (row_of type).invalid →
    notation.invalid ≡ number_as notation type n
unfolding number_as
number_same notation type n e = let t : (n == (row_of type).invalid) ≡ true = eq-eqb _ _ e in rw t refl

pub number_other : (notation : Notation) (type : BaseType) (n : ℕ) → n ≢ (row_of type).invalid →
    plain_as notation type n ≡ number_as notation type n
unfolding number_as
number_other notation type n e = let t : (n == (row_of type).invalid) ≡ false = search rules in rw t refl

-- ---- rows of numbers

-- what is left to show from an index on: the first number has no comma before it
abbrev pub rest_text : (ℕ → List ℕ) → List ℕ → ℕ → List ℕ
rest_text f xs i = if i == 0 then join_by f (codes ",") (drop i xs) else flat_map (λ x. codes "," ++ f x) (drop i xs)

abbrev pub next_text : (ℕ → List ℕ) → ℕ → ℕ → List ℕ
next_text f i x = (if i == 0 then [] else codes ",") ++ f x

pub rest_next : (f : ℕ → List ℕ) (xs : List ℕ) (i x : ℕ) → i < length xs → get_or xs i 0 ≡ x →
    rest_text f xs i ≡ next_text f i x ++ rest_text f xs (i + 1)
rest_next f xs zero x lt e =
    at_drop_more (join_by f (codes ",")) xs 0 0 lt ∙ ap (λ y. f y ++ flat_map (λ y. codes "," ++ f y) (drop 1 xs)) e
rest_next f xs (suc i) x lt e =
    let here : (suc i == 0) ≡ false = search rules in
    let next : (suc i + 1 == 0) ≡ false = search rules in
    rw (here, next)
    (at_drop_more (flat_map (λ y. codes "," ++ f y)) xs (suc i) 0 lt
    ∙ ap (λ y. (codes "," ++ f y) ++ flat_map (λ y. codes "," ++ f y) (drop (suc i + 1) xs)) e)

pub rest_none : (f : ℕ → List ℕ) (xs : List ℕ) (i : ℕ) → length xs ≤ i → rest_text f xs i ≡ []
rest_none f xs zero le = at_drop_all (join_by f (codes ",")) xs 0 le
rest_none f xs (suc i) le =
    let here : (suc i == 0) ≡ false = search rules in
    rw here (at_drop_all (flat_map (λ y. codes "," ++ f y)) xs (suc i) le)

-- the only number of a row of one
pub only_number : (notation : Notation) (number : ℕ → List ℕ) (arch : Arch) (size count : ℕ) (bytes : List ℕ) → count ≡ 1 →
    number (get_or (numbers arch size count bytes) 0 0) ≡ numbers_as notation number (numbers arch size count bytes)
unfolding numbers_as
only_number notation number arch size count bytes one = rw one refl

several_by : (notation : Notation) (number : ℕ → List ℕ) (ns : List ℕ) → (length ns ≡ 1 → ⊥) →
    notation.opening ++ (join_by number (codes ",") ns ++ notation.closing) ≡ numbers_as notation number ns
unfolding numbers_as
several_by notation number [] more = sym (append_assoc notation.opening [] notation.closing)
several_by notation number (n ∷ []) more = absurd (more refl)
several_by notation number (n ∷ m ∷ ns) more = sym (append_assoc notation.opening (join_by number (codes ",") (n ∷ m ∷ ns)) notation.closing)

pub several_parts : (notation : Notation) (number : ℕ → List ℕ) (ns : List ℕ) (count : ℕ) → length ns ≡ count → count ≢ 1 →
    notation.opening ++ (join_by number (codes ",") ns ++ notation.closing) ≡ numbers_as notation number ns
several_parts notation number ns count long more = several_by notation number ns (λ one. more (sym long ∙ one))

-- ---- the values of a field

-- values of one byte are the bytes themselves
pub numbers_bytes : (arch : Arch) (bytes : List ℕ) → numbers arch 1 (length bytes) bytes ≡ bytes
numbers_bytes arch [] = refl
numbers_bytes Little (byte ∷ bytes) = rw (add-zero, numbers_bytes Little bytes) refl
numbers_bytes Big (byte ∷ bytes) = rw (add-zero, numbers_bytes Big bytes) refl

-- the count of a field, by its type, its bytes and whether it is carried raw
abbrev count_by : Option BaseType → Bool → List ℕ → ℕ
count_by o raw bytes = if raw then 0 else length bytes / size_by o

byte_numbers : (type : BaseType) (arch : Arch) (bytes : List ℕ) → (row_of type).size ≡ 1 →
    numbers arch (size_by (Some type)) (count_by (Some type) (raw_by (Some type) (length bytes)) bytes) bytes ≡ bytes
byte_numbers type arch bytes one =
    let rest : (length bytes % 1 == 0) ≡ true = eq-eqb _ _ (omega arith) in
    let whole : length bytes / 1 ≡ length bytes = omega arith in
    rw (one, rest, whole, numbers_bytes arch bytes) refl

bytes_at : (field : Field) (type : BaseType) → base_type field.base ≡ Some type → (row_of type).size ≡ 1 →
    numbers field.arch (value_size field) (count_of field) field.bytes ≡ field.bytes
bytes_at field type known one =
    ap (λ o. numbers field.arch (size_by o) (count_by o (raw_by o (length field.bytes)) field.bytes) field.bytes) known
    ∙ byte_numbers type field.arch field.bytes one

abbrev Writer : Type 0
Writer = BaseType → ℕ → List ℕ

pub raw_values : (notation : Notation) (number : Writer) (field : Field) → is_raw field ≡ true →
    bytes_as notation field.bytes ≡ values_as notation number (base_type field.base) (values_of field)
raw_values notation number field raw = rw raw refl

no_values_by : (notation : Notation) (number : Writer) (o : Option BaseType) (arch : Arch) (bytes : List ℕ) (raw : Bool) (count : ℕ) →
    raw ≡ false → count ≡ 0 →
    notation.nothing ≡ values_as notation number o (if raw then Raw bytes else Numbers (numbers arch (size_by o) count bytes))
no_values_by notation number o arch bytes raw count is none = rw (is, none) refl

pub no_values : (notation : Notation) (number : Writer) (field : Field) → is_raw field ≡ false → count_of field ≡ 0 →
    notation.nothing ≡ values_as notation number (base_type field.base) (values_of field)
no_values notation number field raw none =
    no_values_by notation number (base_type field.base) field.arch field.bytes (is_raw field) (count_of field) raw none

some_by : (notation : Notation) (number : Writer) (o : Option BaseType) (arch : Arch) (bytes : List ℕ) (raw : Bool) (count : ℕ) →
    (raw ≡ true → count ≡ 0) → (count ≡ 0 → ⊥) →
    some_as notation number o (numbers arch (size_by o) count bytes)
    ≡ values_as notation number o (if raw then Raw bytes else Numbers (numbers arch (size_by o) count bytes))
some_by notation number o arch bytes true count none some = absurd (some (none refl))
some_by notation number o arch bytes false zero none some = absurd (some refl)
some_by notation number o arch bytes false (suc count) none some = refl

raw_none : (field : Field) → is_raw field ≡ true → count_of field ≡ 0
raw_none field raw = rw raw refl

-- a field with values has them as its type requires
some_values : (notation : Notation) (number : Writer) (field : Field) (type : BaseType) → base_type field.base ≡ Some type →
    (count_of field ≡ 0 → ⊥) →
    some_as notation number (Some type) (numbers field.arch (value_size field) (count_of field) field.bytes)
    ≡ values_as notation number (base_type field.base) (values_of field)
some_values notation number field type known some =
    ap (λ o. some_as notation number o (numbers field.arch (value_size field) (count_of field) field.bytes)) (sym known)
    ∙ some_by notation number (base_type field.base) field.arch field.bytes (is_raw field) (count_of field) (raw_none field) some

pub string_values : (notation : Notation) (number : Writer) (field : Field) → base_type field.base ≡ Some String → (count_of field ≡ 0 → ⊥) →
    string_as notation field.bytes ≡ values_as notation number (base_type field.base) (values_of field)
string_values notation number field known some =
    ap (string_as notation) (sym (bytes_at field String known refl)) ∙ some_values notation number field String known some

pub byte_values : (notation : Notation) (number : Writer) (field : Field) → base_type field.base ≡ Some Byte → (count_of field ≡ 0 → ⊥) →
    byte_as notation field.bytes ≡ values_as notation number (base_type field.base) (values_of field)
byte_values notation number field known some =
    ap (byte_as notation) (sym (bytes_at field Byte known refl)) ∙ some_values notation number field Byte known some

some_numbers : (notation : Notation) (number : Writer) (type : BaseType) (ns : List ℕ) → IsNumber type →
    numbers_as notation (number type) ns ≡ some_as notation number (Some type) ns
some_numbers notation number String ns bad = absurd bad
some_numbers notation number Byte ns bad = absurd bad
some_numbers notation number type ns is = refl

pub number_values : (notation : Notation) (number : Writer) (field : Field) (type : BaseType) → base_type field.base ≡ Some type →
    IsNumber type → (count_of field ≡ 0 → ⊥) →
    numbers_as notation (number type) (numbers field.arch (value_size field) (count_of field) field.bytes)
    ≡ values_as notation number (base_type field.base) (values_of field)
number_values notation number field type known is some =
    some_numbers notation number type _ is ∙ some_values notation number field type known some

-- a type other than string and byte is one of numbers
pub is_number : (type : BaseType) → (type ≡ String → ⊥) → (type ≡ Byte → ⊥) → IsNumber type
is_number String no_string no_byte = no_string refl
is_number Byte no_string no_byte = no_byte refl
is_number type no_string no_byte = tt
