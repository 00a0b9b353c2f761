-- The fields of a definition and what they hold: for `fields` and `place`.
use Rattle.std.proofs.Common.{◌≡◌, ℕ, ◌+◌, ◌==◌, max, Bool, true, false, ℤ, List, [], ◌∷◌, ◌++◌, length, get_or, take, drop, map, refl, sym, ◌∙◌, append_assoc, append-nil, Some, None, arith, rules, ◌-◌, ◌<◌, ◌≤◌, if◌then◌else◌}
use Rattle.std.proofs.lemmas.List.{take_all}
use Rattle.fit_base.specs.declared.base.BaseType.{BaseType}
use Rattle.fit_base.specs.declared.base.BaseType.TheVariants.{Enum, Sint8, Uint8, Sint16, Uint16, Sint32, Uint32, String, Float32, Float64, Uint8z, Uint16z, Uint32z, Byte, Sint64, Uint64, Uint64z}
use Rattle.fit_columns.specs.declared.place.Kind.{Kind}
use Rattle.fit_columns.specs.declared.place.Kind.TheVariants.{Unsigned, Signed, Nothing}
use Rattle.fit_columns.specs.declared.fields.FieldHere.{FieldHere}
use Rattle.fit_columns.specs.Columns.{is_whole}
use Rattle.fit_columns.specs.Places.{kind_cell, type_cell}
use Rattle.fit_columns.specs.Fields.{holding, held_by}

-- ---- whole numbers

some_there : (b : Bool) (value : ℤ) → b ≡ false → None ≡ (if b then None else Some value) → ⊥
some_there true value is e = cc
some_there false value is e = cc

nothing_kind : (kind : Kind) → ((n : ℕ) → None ≡ kind_cell kind n) → kind ≡ Nothing
nothing_kind (Unsigned invalid) h =
    let no : (invalid + 1 == invalid) ≡ false = search rules in
    absurd (some_there (invalid + 1 == invalid) _ no (h (invalid + 1)))
nothing_kind (Signed invalid) h =
    let no : (invalid + 1 == invalid) ≡ false = search rules in
    absurd (some_there (invalid + 1 == invalid) _ no (h (invalid + 1)))
nothing_kind Nothing h = refl

-- values that are read as nothing are not whole
pub nothing_read : (type : BaseType) → ((n : ℕ) → type_cell type n ≡ None) → is_whole type ≡ false
nothing_read Enum h = let e = h 1 in cc
nothing_read Uint8 h = let e = h 1 in cc
nothing_read Byte h = let e = h 1 in cc
nothing_read Uint16 h = let e = h 1 in cc
nothing_read Uint32 h = let e = h 1 in cc
nothing_read Uint8z h = let e = h 1 in cc
nothing_read Uint16z h = let e = h 1 in cc
nothing_read Uint32z h = let e = h 1 in cc
nothing_read Sint8 h = let e = h 1 in cc
nothing_read Sint16 h = let e = h 1 in cc
nothing_read Sint32 h = let e = h 1 in cc
nothing_read String h = refl
nothing_read Float32 h = refl
nothing_read Float64 h = refl
nothing_read Sint64 h = refl
nothing_read Uint64 h = refl
nothing_read Uint64z h = refl

-- and all others are
pub some_read : (type : BaseType) (kind : Kind) → ((n : ℕ) → type_cell type n ≡ kind_cell kind n) → (kind ≡ Nothing → ⊥) → is_whole type ≡ true
some_read Enum kind h some = refl
some_read Uint8 kind h some = refl
some_read Byte kind h some = refl
some_read Uint16 kind h some = refl
some_read Uint32 kind h some = refl
some_read Uint8z kind h some = refl
some_read Uint16z kind h some = refl
some_read Uint32z kind h some = refl
some_read Sint8 kind h some = refl
some_read Sint16 kind h some = refl
some_read Sint32 kind h some = refl
some_read String kind h some = absurd (some (nothing_kind kind h))
some_read Float32 kind h some = absurd (some (nothing_kind kind h))
some_read Float64 kind h some = absurd (some (nothing_kind kind h))
some_read Sint64 kind h some = absurd (some (nothing_kind kind h))
some_read Uint64 kind h some = absurd (some (nothing_kind kind h))
some_read Uint64z kind h some = absurd (some (nothing_kind kind h))

-- ---- loops over fields

-- the first of some fields, made into another form, and the others
pub next_made : {A B : Type 0} (f : A → B) (made before : List B) (left : List A) (d : A) → 1 ≤ length left →
    made ++ map f left ≡ before →
    (made ++ f (get_or left 0 d) ∷ []) ++ map f (take (length left - 1) (drop 1 left)) ≡ before
next_made f made before [] d some e = absurd (omega arith)
next_made f made before (field ∷ fields) d some e =
    let rest : take (length (field ∷ fields) - 1) fields ≡ fields = take_all _ fields (omega arith) in
    rw (rest, append_assoc) e

pub none_made : {A B : Type 0} (f : A → B) (made before : List B) (left : List A) → length left < 1 → made ++ map f left ≡ before → made ≡ before
none_made f made before [] none e = sym (append-nil made) ∙ e
none_made f made before (field ∷ fields) none e = absurd (omega arith)

pub held_first : (code : ℕ) (left : List FieldHere) (d : FieldHere) → 1 ≤ length left →
    held_by code left ≡ max (held_by code (get_or left 0 d ∷ [])) (held_by code (take (length left - 1) (drop 1 left)))
held_first code [] d some = absurd (omega arith)
held_first code (field ∷ fields) d some =
    let rest : take (length (field ∷ fields) - 1) fields ≡ fields = take_all _ fields (omega arith) in
    let none : max (if field.code == code then holding field else 0) 0 ≡ (if field.code == code then holding field else 0) = omega arith in
    rw (rest, none) refl

pub held_none : (code : ℕ) (left : List FieldHere) → length left < 1 → held_by code left ≡ 0
held_none code [] none = refl
held_none code (field ∷ fields) none = absurd (omega arith)
