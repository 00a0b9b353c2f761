-- The times in the bytes of a field, and the bytes of those that are moved.
use Rattle.std.proofs.Common.{◌≡◌, ℕ, suc, ◌<◌, ◌/◌, ◌%◌, ◌&&◌, ◌==◌, Bool, true, false, List, [], ◌∷◌, length, map, refl, sym, ap, ◌∙◌, arith, inl, inr, if◌then◌else◌, length-append}
use Rattle.std.specs.List.{list_all}
use Rattle.std.proofs.lemmas.Bool.Decides.{eqb_tells}
use Rattle.fit_base.specs.declared.order.Arch.{Arch}
use Rattle.fit_base.specs.declared.order.Arch.TheVariants.{Little, Big}
use Rattle.fit_base.specs.Number.{number}
use Rattle.fit_base.specs.Value.{Field, Values, Numbers, Raw, numbers, is_raw, values_of}
use Rattle.fit_grammar.specs.declared.definition.FieldDefinition.{FieldDefinition}
use Rattle.fit_grammar.specs.Calls.PlainForm.{time_bytes}
use Rattle.fit_grammar.proofs.Encoder.Encoded.{four_again}
use Rattle.fit_shifting.specs.declared.shift.Shift.{Shift}
use Rattle.fit_shifting.specs.Times.{holds_time}
use Rattle.fit_shifting.specs.Moved.{can_move_field, can_move_time, can_move_values, moved_time, moved_values}
use Rattle.fit_shifting.specs.Private.Content.{times_of, times_moved, field_moved}

-- ---- bytes

times_are : (arch : Arch) (bytes : List ℕ) → numbers arch 4 (length bytes / 4) bytes ≡ times_of arch bytes
times_are arch [] = refl
times_are arch (a ∷ []) = refl
times_are arch (a ∷ b ∷ []) = refl
times_are arch (a ∷ b ∷ c ∷ []) = refl
times_are arch (a ∷ b ∷ c ∷ d ∷ bytes) =
    let next : length (a ∷ b ∷ c ∷ d ∷ bytes) / 4 ≡ suc (length bytes / 4) = omega arith in
    ap (λ (n : ℕ). numbers arch 4 n (a ∷ b ∷ c ∷ d ∷ bytes)) next
    ∙ ap (λ (times : List ℕ). number arch (a ∷ b ∷ c ∷ d ∷ []) ∷ times) (times_are arch bytes)

times_again : (shift : Shift) (arch : Arch) (bytes : List ℕ)
    → times_of arch (times_moved shift arch bytes) ≡ map (moved_time shift) (times_of arch bytes)
times_again shift arch [] = refl
times_again shift arch (a ∷ []) = refl
times_again shift arch (a ∷ b ∷ []) = refl
times_again shift arch (a ∷ b ∷ c ∷ []) = refl
times_again shift Little (a ∷ b ∷ c ∷ d ∷ bytes) =
    let time = moved_time shift (number Little (a ∷ b ∷ c ∷ d ∷ [])) in
    ap (λ (first : ℕ). first ∷ times_of Little (times_moved shift Little bytes)) (four_again time)
    ∙ ap (λ (times : List ℕ). time ∷ times) (times_again shift Little bytes)
times_again shift Big (a ∷ b ∷ c ∷ d ∷ bytes) =
    let time = moved_time shift (number Big (a ∷ b ∷ c ∷ d ∷ [])) in
    ap (λ (first : ℕ). first ∷ times_of Big (times_moved shift Big bytes)) (four_again time)
    ∙ ap (λ (times : List ℕ). time ∷ times) (times_again shift Big bytes)

pub four : (arch : Arch) (time : ℕ) → length (time_bytes arch time) ≡ 4
four Little time = refl
four Big time = refl

pub times_length : (shift : Shift) (arch : Arch) (bytes : List ℕ) → length (times_moved shift arch bytes) ≡ length bytes
times_length shift arch [] = refl
times_length shift arch (a ∷ []) = refl
times_length shift arch (a ∷ b ∷ []) = refl
times_length shift arch (a ∷ b ∷ c ∷ []) = refl
times_length shift arch (a ∷ b ∷ c ∷ d ∷ bytes) =
    let first = time_bytes arch (moved_time shift (number arch (a ∷ b ∷ c ∷ d ∷ []))) in
    omega (
      arith,
      length-append first (times_moved shift arch bytes),
      four arch (moved_time shift (number arch (a ∷ b ∷ c ∷ d ∷ []))),
      times_length shift arch bytes,
    )

-- ---- values

abbrev pub field_by : ℕ → Arch → List ℕ → Field
field_by base arch bytes = record { base = base; arch = arch; bytes = bytes }

values_whole : (arch : Arch) (bytes : List ℕ) → (length bytes % 4 == 0) ≡ true → values_of (field_by 0x86 arch bytes) ≡ Numbers (times_of arch bytes)
values_whole arch bytes whole = rw whole (ap Numbers (times_are arch bytes))

values_broken : (arch : Arch) (bytes : List ℕ) → (length bytes % 4 == 0) ≡ false → values_of (field_by 0x86 arch bytes) ≡ Raw bytes
values_broken arch bytes broken = rw broken refl

-- the times that can be moved are those of the bytes
can_move_whole : (shift : Shift) (arch : Arch) (bytes : List ℕ) → (length bytes % 4 == 0) ≡ true
    → can_move_values shift (values_of (field_by 0x86 arch bytes)) ≡ list_all (can_move_time shift) (times_of arch bytes)
can_move_whole shift arch bytes whole = ap (can_move_values shift) (values_whole arch bytes whole)

can_move_broken : (shift : Shift) (arch : Arch) (bytes : List ℕ) → (length bytes % 4 == 0) ≡ false
    → can_move_values shift (values_of (field_by 0x86 arch bytes)) ≡ true
can_move_broken shift arch bytes broken = ap (can_move_values shift) (values_broken arch bytes broken)

whole_by : (arch : Arch) (bytes : List ℕ) → is_raw (field_by 0x86 arch bytes) ≡ false → (length bytes % 4 == 0) ≡ true
whole_by arch bytes raw =
    elim (eqb_tells (length bytes % 4) 0) [
      | inl whole ↦ whole.0
      | inr broken ↦ absurd (cc (rw broken.0 at raw))
    ]

pub not_raw : (shift : Shift) (base : ℕ) (arch : Arch) (bytes : List ℕ) → base ≡ 0x86 → is_raw (field_by base arch bytes) ≡ false
    → can_move_values shift (values_of (field_by base arch bytes)) ≡ list_all (can_move_time shift) (times_of arch bytes)
not_raw shift base arch bytes is = rw is (λ raw. can_move_whole shift arch bytes (whole_by arch bytes raw))

-- moved as times are moved
abbrev bytes_by : Shift → Arch → Bool → List ℕ → List ℕ
bytes_by shift arch is_time bytes = if is_time && (length bytes % 4 == 0) then times_moved shift arch bytes else bytes

abbrev values_by : Shift → Bool → Values → Values
values_by shift is_time values = if is_time then moved_values shift values else values

moved_whole : (shift : Shift) (arch : Arch) (bytes : List ℕ) → (length bytes % 4 == 0) ≡ true
    → values_of (field_by 0x86 arch (times_moved shift arch bytes)) ≡ moved_values shift (values_of (field_by 0x86 arch bytes))
moved_whole shift arch bytes whole =
    let same = ap (λ (n : ℕ). n % 4 == 0) (times_length shift arch bytes) in
    values_whole arch (times_moved shift arch bytes) (same ∙ whole)
    ∙ ap Numbers (times_again shift arch bytes)
    ∙ sym (ap (moved_values shift) (values_whole arch bytes whole))

moved_times : (shift : Shift) (arch : Arch) (bytes : List ℕ)
    → values_of (field_by 0x86 arch (bytes_by shift arch true bytes)) ≡ moved_values shift (values_of (field_by 0x86 arch bytes))
moved_times shift arch bytes =
    elim (eqb_tells (length bytes % 4) 0) [
      | inl whole ↦
          ap (λ (b : Bool). values_of (field_by 0x86 arch (if b then times_moved shift arch bytes else bytes))) whole.0
          ∙ moved_whole shift arch bytes whole.0
      | inr broken ↦
          ap (λ (b : Bool). values_of (field_by 0x86 arch (if b then times_moved shift arch bytes else bytes))) broken.0
          ∙ values_broken arch bytes broken.0
          ∙ sym (ap (moved_values shift) (values_broken arch bytes broken.0))
    ]

by_base : (shift : Shift) (arch : Arch) (is_time : Bool) (base : ℕ) (bytes : List ℕ) → (is_time ≡ true → base ≡ 0x86)
    → values_of (field_by base arch (bytes_by shift arch is_time bytes)) ≡ values_by shift is_time (values_of (field_by base arch bytes))
by_base shift arch false base bytes is = refl
by_base shift arch true base bytes is = rw (is refl) (moved_times shift arch bytes)

both_true : (a b : Bool) → (a && b) ≡ true → a ≡ true
both_true true b e = refl
both_true false b e = cc

base_of : (message number base : ℕ) → holds_time message number base ≡ true → base ≡ 0x86
base_of message number base e =
    elim (eqb_tells base 0x86) [
      | inl same ↦ same.1
      | inr other ↦ absurd (cc (sym other.0 ∙ both_true (base == 0x86) _ e))
    ]

-- the values of a field whose bytes are moved are those of the field, moved
pub values_again : (shift : Shift) (message : ℕ) (arch : Arch) (field : FieldDefinition) (bytes : List ℕ)
    → values_of (field_by field.base arch (field_moved shift message arch field bytes))
    ≡ values_by shift (holds_time message field.number field.base) (values_of (field_by field.base arch bytes))
values_again shift message arch field bytes =
    by_base shift arch (holds_time message field.number field.base) field.base bytes (base_of message field.number field.base)

by_length : (shift : Shift) (arch : Arch) (is_moved : Bool) (bytes : List ℕ)
    → length (if is_moved then times_moved shift arch bytes else bytes) ≡ length bytes
by_length shift arch false bytes = refl
by_length shift arch true bytes = times_length shift arch bytes

pub field_length : (shift : Shift) (message : ℕ) (arch : Arch) (field : FieldDefinition) (bytes : List ℕ)
    → length (field_moved shift message arch field bytes) ≡ length bytes
field_length shift message arch field bytes =
    by_length shift arch (holds_time message field.number field.base && (length bytes % 4 == 0)) bytes

-- ---- less than four bytes have no times

no_times : (arch : Arch) (bytes : List ℕ) → length bytes < 4 → times_of arch bytes ≡ []
no_times arch [] short = refl
no_times arch (a ∷ []) short = refl
no_times arch (a ∷ b ∷ []) short = refl
no_times arch (a ∷ b ∷ c ∷ []) short = refl
no_times arch (a ∷ b ∷ c ∷ d ∷ bytes) short = absurd (omega (arith, short))

pub none_moved : (shift : Shift) (arch : Arch) (bytes : List ℕ) → length bytes < 4 → times_moved shift arch bytes ≡ bytes
none_moved shift arch [] short = refl
none_moved shift arch (a ∷ []) short = refl
none_moved shift arch (a ∷ b ∷ []) short = refl
none_moved shift arch (a ∷ b ∷ c ∷ []) short = refl
none_moved shift arch (a ∷ b ∷ c ∷ d ∷ bytes) short = absurd (omega (arith, short))

stays_by : (shift : Shift) (arch : Arch) (is_moved : Bool) (bytes : List ℕ) → length bytes < 4
    → (if is_moved then times_moved shift arch bytes else bytes) ≡ bytes
stays_by shift arch false bytes short = refl
stays_by shift arch true bytes short = none_moved shift arch bytes short

pub field_stays : (shift : Shift) (message : ℕ) (arch : Arch) (field : FieldDefinition) (bytes : List ℕ) → length bytes < 4
    → field_moved shift message arch field bytes ≡ bytes
field_stays shift message arch field bytes short =
    stays_by shift arch (holds_time message field.number field.base && (length bytes % 4 == 0)) bytes short

free_four : (shift : Shift) (arch : Arch) (bytes : List ℕ) → length bytes < 4 → can_move_values shift (values_of (field_by 0x86 arch bytes)) ≡ true
free_four shift arch bytes short =
    elim (eqb_tells (length bytes % 4) 0) [
      | inl whole ↦ can_move_whole shift arch bytes whole.0 ∙ ap (list_all (can_move_time shift)) (no_times arch bytes short)
      | inr broken ↦ can_move_broken shift arch bytes broken.0
    ]

free_by : (shift : Shift) (arch : Arch) (is_time : Bool) (base : ℕ) (bytes : List ℕ) → (is_time ≡ true → base ≡ 0x86) → length bytes < 4
    → (if is_time then can_move_values shift (values_of (field_by base arch bytes)) else true) ≡ true
free_by shift arch false base bytes is short = refl
free_by shift arch true base bytes is short = rw (is refl) (free_four shift arch bytes short)

pub free_field : (shift : Shift) (message number base : ℕ) (arch : Arch) (bytes : List ℕ) → length bytes < 4
    → can_move_field shift message (record { number = number; base = base; values = values_of (field_by base arch bytes) }) ≡ true
free_field shift message number base arch bytes short =
    free_by shift arch (holds_time message number base) base bytes (base_of message number base) short
