-- The bytes of a field that changes, and the values that they encode.
use Rattle.std.proofs.Common.{◌≡◌, ℕ, ◌/◌, ◌%◌, ◌&&◌, ◌||◌, ◌==◌, Bool, true, false, List, [], ◌∷◌, length, Option, refl, sym, ap, ◌∙◌, arith, inl, inr, if◌then◌else◌}
use Rattle.std.proofs.lemmas.Bool.Decides.{eqb_tells}
use Rattle.fit_base.specs.declared.order.Arch.{Arch}
use Rattle.fit_base.specs.declared.order.Arch.TheVariants.{Little, Big}
use Rattle.fit_base.specs.declared.base.BaseType.{BaseType}
use Rattle.fit_base.specs.declared.base.BaseType.TheVariants.{Uint8, Uint16, Uint32}
use Rattle.fit_base.specs.Base.{row_of}
use Rattle.fit_base.specs.Number.{number, low_first}
use Rattle.fit_base.specs.Value.{Field, Values, Numbers, Raw, values_of, field_of}
use Rattle.fit_grammar.specs.declared.definition.FieldDefinition.{FieldDefinition}
use Rattle.fit_grammar.specs.Calls.PlainForm.{time_bytes}
use Rattle.fit_grammar.specs.Format.Encoding.{two_bytes}
use Rattle.fit_grammar.proofs.Encoder.Encoded.{four_again}
use Rattle.fit_grammar.proofs.OneValue.{values-of-one, size-of-one}
use Rattle.fit_joining.specs.declared.tally.Tally.{Tally}
use Rattle.fit_joining.specs.Makers.{index_in}
use Rattle.fit_joining.specs.Part.{is_distance, is_index, is_lap_number, further, with_number, changed_values}
use Rattle.fit_joining.specs.Content.{distance_changed, lap_changed, index_changed, bytes_changed, field_changed}

-- ---- a field of one number gets another, and others stay

same_by : (f : ℕ → ℕ) (values : Values) → ((n : ℕ) → values ≡ Numbers (n ∷ []) → ⊥) → values ≡ with_number f values
same_by f (Numbers []) other = refl
same_by f (Numbers (n ∷ [])) other = absurd (other n refl)
same_by f (Numbers (a ∷ b ∷ ns)) other = refl
same_by f (Raw bytes) other = refl

other_size : (base : BaseType) (f : ℕ → ℕ) (arch : Arch) (bytes : List ℕ) → (length bytes ≡ (row_of base).size → ⊥)
    → values_of (field_of base arch bytes) ≡ with_number f (values_of (field_of base arch bytes))
other_size base f arch bytes other =
    same_by f (values_of (field_of base arch bytes)) (λ n is. other (size-of-one base arch bytes n is))

one_number : (base : BaseType) (f : ℕ → ℕ) (arch : Arch) (old new : List ℕ) → length old ≡ (row_of base).size → length new ≡ (row_of base).size
    → number arch new ≡ f (number arch old) → values_of (field_of base arch new) ≡ with_number f (values_of (field_of base arch old))
one_number base f arch old new old_size new_size is =
    values-of-one base arch new new_size
    ∙ ap (λ (n : ℕ). Numbers (n ∷ [])) is
    ∙ sym (ap (with_number f) (values-of-one base arch old old_size))

-- ---- distances

distance_again : (t : Tally) (arch : Arch) (bytes : List ℕ)
    → values_of (field_of Uint32 arch (distance_changed t arch bytes)) ≡ with_number (further t.begun_at) (values_of (field_of Uint32 arch bytes))
distance_again t arch [] = other_size Uint32 (further t.begun_at) arch [] (λ is. absurd (omega (arith, is)))
distance_again t arch (a ∷ []) = other_size Uint32 (further t.begun_at) arch (a ∷ []) (λ is. absurd (omega (arith, is)))
distance_again t arch (a ∷ b ∷ []) = other_size Uint32 (further t.begun_at) arch (a ∷ b ∷ []) (λ is. absurd (omega (arith, is)))
distance_again t arch (a ∷ b ∷ c ∷ []) = other_size Uint32 (further t.begun_at) arch (a ∷ b ∷ c ∷ []) (λ is. absurd (omega (arith, is)))
distance_again t Little (a ∷ b ∷ c ∷ d ∷ []) =
    let old = a ∷ b ∷ c ∷ d ∷ [] in
    let n = further t.begun_at (number Little old) in
    one_number Uint32 (further t.begun_at) Little old (time_bytes Little n) refl refl (four_again n)
distance_again t Big (a ∷ b ∷ c ∷ d ∷ []) =
    let old = a ∷ b ∷ c ∷ d ∷ [] in
    let n = further t.begun_at (number Big old) in
    one_number Uint32 (further t.begun_at) Big old (time_bytes Big n) refl refl (four_again n)
distance_again t arch (a ∷ b ∷ c ∷ d ∷ e ∷ bytes) =
    other_size Uint32 (further t.begun_at) arch (a ∷ b ∷ c ∷ d ∷ e ∷ bytes) (λ is. absurd (omega (arith, is)))

distance_length : (t : Tally) (arch : Arch) (bytes : List ℕ) → length (distance_changed t arch bytes) ≡ length bytes
distance_length t arch [] = refl
distance_length t arch (a ∷ []) = refl
distance_length t arch (a ∷ b ∷ []) = refl
distance_length t arch (a ∷ b ∷ c ∷ []) = refl
distance_length t Little (a ∷ b ∷ c ∷ d ∷ []) = refl
distance_length t Big (a ∷ b ∷ c ∷ d ∷ []) = refl
distance_length t arch (a ∷ b ∷ c ∷ d ∷ e ∷ bytes) = refl

-- ---- the numbers of laps

two_again : (n : ℕ) → low_first (n % 256 ∷ n / 256 ∷ []) ≡ n
two_again n = omega arith

lap_again : (t : Tally) (arch : Arch) (bytes : List ℕ)
    → values_of (field_of Uint16 arch (lap_changed t arch bytes)) ≡ with_number (λ n. t.laps) (values_of (field_of Uint16 arch bytes))
lap_again t arch [] = other_size Uint16 (λ n. t.laps) arch [] (λ is. absurd (omega (arith, is)))
lap_again t arch (a ∷ []) = other_size Uint16 (λ n. t.laps) arch (a ∷ []) (λ is. absurd (omega (arith, is)))
lap_again t Little (a ∷ b ∷ []) =
    one_number Uint16 (λ n. t.laps) Little (a ∷ b ∷ []) (two_bytes Little t.laps) refl refl (two_again t.laps)
lap_again t Big (a ∷ b ∷ []) =
    one_number Uint16 (λ n. t.laps) Big (a ∷ b ∷ []) (two_bytes Big t.laps) refl refl (two_again t.laps)
lap_again t arch (a ∷ b ∷ c ∷ bytes) =
    other_size Uint16 (λ n. t.laps) arch (a ∷ b ∷ c ∷ bytes) (λ is. absurd (omega (arith, is)))

lap_length : (t : Tally) (arch : Arch) (bytes : List ℕ) → length (lap_changed t arch bytes) ≡ length bytes
lap_length t arch [] = refl
lap_length t arch (a ∷ []) = refl
lap_length t Little (a ∷ b ∷ []) = refl
lap_length t Big (a ∷ b ∷ []) = refl
lap_length t arch (a ∷ b ∷ c ∷ bytes) = refl

-- ---- developer data indices

one_byte : (arch : Arch) (n : ℕ) → number arch (n ∷ []) ≡ n
one_byte Little n = omega arith
one_byte Big n = omega arith

index_again : (given : List (Option ℕ)) (arch : Arch) (bytes : List ℕ)
    → values_of (field_of Uint8 arch (index_changed given bytes)) ≡ with_number (index_in given) (values_of (field_of Uint8 arch bytes))
index_again given arch [] = other_size Uint8 (index_in given) arch [] (λ is. absurd (omega (arith, is)))
index_again given arch (a ∷ []) =
    one_number Uint8 (index_in given) arch (a ∷ []) (index_in given a ∷ []) refl refl
    (one_byte arch (index_in given a) ∙ ap (index_in given) (sym (one_byte arch a)))
index_again given arch (a ∷ b ∷ bytes) =
    other_size Uint8 (index_in given) arch (a ∷ b ∷ bytes) (λ is. absurd (omega (arith, is)))

index_length : (given : List (Option ℕ)) (bytes : List ℕ) → length (index_changed given bytes) ≡ length bytes
index_length given [] = refl
index_length given (a ∷ []) = refl
index_length given (a ∷ b ∷ bytes) = refl

-- ---- fields

abbrev pub field_by : ℕ → Arch → List ℕ → Field
field_by base arch bytes = record { base = base; arch = arch; bytes = bytes }

abbrev values_by : List (Option ℕ) → Tally → Bool → Bool → Bool → Values → Values
values_by given t distance lap index values =
    if distance then with_number (further t.begun_at) values
    else if lap then with_number (λ n. t.laps) values
    else if index then with_number (index_in given) values
    else values

by_kind : (given : List (Option ℕ)) (t : Tally) (arch : Arch) (distance lap index : Bool) (base : ℕ) (bytes : List ℕ)
    → (distance ≡ true → base ≡ 0x86) → (lap ≡ true → base ≡ 0x84) → (index ≡ true → base ≡ 0x02)
    → values_of (field_by base arch (bytes_changed given t arch distance lap index bytes))
    ≡ values_by given t distance lap index (values_of (field_by base arch bytes))
by_kind given t arch true lap index base bytes is_distance is_lap is_index = rw (is_distance refl) (distance_again t arch bytes)
by_kind given t arch false true index base bytes is_distance is_lap is_index = rw (is_lap refl) (lap_again t arch bytes)
by_kind given t arch false false true base bytes is_distance is_lap is_index = rw (is_index refl) (index_again given arch bytes)
by_kind given t arch false false false base bytes is_distance is_lap is_index = refl

both_true : (a b : Bool) → (a && b) ≡ true → a ≡ true
both_true true b e = refl
both_true false b e = cc

base_by : (base code : ℕ) (b : Bool) → ((base == code) && b) ≡ true → base ≡ code
base_by base code b e =
    elim (eqb_tells base code) [
      | inl same ↦ same.1
      | inr other ↦ absurd (cc (sym other.0 ∙ both_true (base == code) b e))
    ]

-- the values of a field whose bytes change are those of the field, changed
pub values_again : (given : List (Option ℕ)) (t : Tally) (message : ℕ) (arch : Arch) (field : FieldDefinition) (bytes : List ℕ)
    → values_of (field_by field.base arch (field_changed given t message arch field bytes))
    ≡ changed_values given t message field.number field.base (values_of (field_by field.base arch bytes))
values_again given t message arch field bytes =
    by_kind given t arch (is_distance message field.number field.base) (is_lap_number message field.number field.base)
    (is_index message field.number field.base) field.base bytes
    (base_by field.base 0x86 ((message == 20) && (field.number == 5))) (base_by field.base 0x84 ((message == 19) && (field.number == 254)))
    (base_by field.base 0x02 (((message == 207) && (field.number == 3)) || ((message == 206) && (field.number == 0))))

by_length : (given : List (Option ℕ)) (t : Tally) (arch : Arch) (distance lap index : Bool) (bytes : List ℕ)
    → length (bytes_changed given t arch distance lap index bytes) ≡ length bytes
by_length given t arch true lap index bytes = distance_length t arch bytes
by_length given t arch false true index bytes = lap_length t arch bytes
by_length given t arch false false true bytes = index_length given bytes
by_length given t arch false false false bytes = refl

pub field_length : (given : List (Option ℕ)) (t : Tally) (message : ℕ) (arch : Arch) (field : FieldDefinition) (bytes : List ℕ)
    → length (field_changed given t message arch field bytes) ≡ length bytes
field_length given t message arch field bytes =
    by_length given t arch (is_distance message field.number field.base) (is_lap_number message field.number field.base)
    (is_index message field.number field.base) bytes
