-- How many bytes a definition has, and how many it is written as: for `DefinitionMessage::size` and short definitions.
use Rattle.std.proofs.Common.{◌≡◌, ◌≢◌, ℕ, ◌+◌, ◌*◌, ◌%◌, ◌≤◌, Bool, true, false, cond, List, [], ◌∷◌, length, refl, sym, ap, ◌∙◌, subst, arith}
use Rattle.std.specs.Prelude.{slice_index}
use Rattle.fit_grammar.specs.declared.definition.DeveloperFieldDefinition.{DeveloperFieldDefinition}
use Rattle.std.proofs.lemmas.Bool.{lt-ltb}
use Rattle.std.proofs.lemmas.List.{take_all}
use Rattle.fit_grammar.specs.Format.Item.{Defines, DefinitionHead, head_of, item_size, part_size, has_any}
use Rattle.fit_grammar.specs.Calls.Step.{after_fields, definition_length_of}
use Rattle.fit_grammar.specs.Private.DefinitionBytes.{definition_at, AreDefinition}
use Rattle.fit_grammar.proofs.OneItem.DefinitionRead.{definition_spelled, front_is, all_fields}
use Rattle.fit_grammar.proofs.OneItem.Spelling.{definition_length, definition_count}

-- the part for developer fields has one byte, for their number, exactly if it announces none
one_byte : (announced : Bool) (fields : List DeveloperFieldDefinition) → (announced ≡ false → fields ≡ [])
    → (part_size announced (length fields) ≡ 1 → part_size (has_any fields) (length fields) ≡ 0)
    × (part_size announced (length fields) ≢ 1 → part_size (has_any fields) (length fields) ≡ part_size announced (length fields))
one_byte false fields none = let e = none refl in rw e ((λ bad. absurd (omega (arith, bad))), (λ _. refl))
one_byte true [] none = ((λ _. refl), (λ bad. absurd (bad refl)))
one_byte true (field ∷ fields) none = ((λ bad. absurd (omega (arith, bad))), (λ _. refl))

-- a definition is written as the bytes that spell it, without the number of its developer fields if there are none
pub written_size : (bytes : List ℕ) → AreDefinition bytes
    → (length bytes ≡ 6 + 3 * slice_index bytes 5 + 1 → item_size (Defines (definition_at bytes)) ≡ 6 + 3 * slice_index bytes 5)
    × (length bytes ≢ 6 + 3 * slice_index bytes 5 + 1 → item_size (Defines (definition_at bytes)) ≡ length bytes)
written_size bytes are =
    let d = definition_at bytes in
    let spelled = definition_spelled bytes are in
    let count = definition_count d bytes spelled in
    let whole = definition_length d bytes spelled in
    let one = one_byte spelled.announced d.developer.items spelled.none in (
      λ e. omega (arith, count, whole, e, one.0 (omega (arith, count, whole, e))),
      λ e. omega (arith, count, whole, one.1 (λ bad. e (omega (arith, count, whole, bad)))),
    )

at_most : (announced : Bool) (fields : List DeveloperFieldDefinition) → (announced ≡ false → fields ≡ []) → (front whole : ℕ)
    → whole ≡ front + part_size announced (length fields) → whole ≤ front + part_size (has_any fields) (length fields) + 1
at_most false fields none front whole e = let empty = none refl in omega arith
at_most true [] none front whole e = omega arith
at_most true (field ∷ fields) none front whole e = omega arith

-- so it has at most one byte more than it is written as
pub spelled_length : (bytes : List ℕ) → AreDefinition bytes → length bytes ≤ item_size (Defines (definition_at bytes)) + 1
spelled_length bytes are =
    let d = definition_at bytes in
    let spelled = definition_spelled bytes are in
    let whole = definition_length d bytes spelled in
    at_most spelled.announced d.developer.items spelled.none (6 + 3 * length d.fields.items) (length bytes) whole

-- bytes are those of a definition exactly if they have its length
pub definition_whole : (bytes : List ℕ) (l : ℕ) (announced : Bool) → head_of (slice_index bytes 0) ≡ DefinitionHead l announced
    → 1 ≤ length bytes → definition_length_of announced bytes ≡ length bytes → AreDefinition bytes
definition_whole bytes l announced head some whole =
    subst AreDefinition (take_all (length bytes) bytes (omega arith))
    (front_is bytes l (length bytes) announced head some (sym whole) (omega arith))

after_whole : (announced : Bool) (end : ℕ) (bytes : List ℕ) → length bytes ≡ end + part_size announced (slice_index bytes end)
    → after_fields announced end bytes ≡ length bytes
after_whole false end bytes whole = omega (arith, whole)
after_whole true end bytes whole = ap (λ (t : Bool). cond t (end + part_size true (slice_index bytes end)) (end + part_size true 0)) (lt-ltb end (length bytes) (omega (arith, whole))) ∙ sym whole

pub whole_definition : (bytes : List ℕ) (l : ℕ) (announced : Bool) → head_of (slice_index bytes 0) ≡ DefinitionHead l announced
    → AreDefinition bytes → definition_length_of announced bytes ≡ length bytes
whole_definition bytes l announced head are =
    let same : DefinitionHead (slice_index bytes 0 % 16) are.announced ≡ DefinitionHead l announced = sym are.head ∙ head in
    let announces : are.announced ≡ announced = cc in
    all_fields announced bytes (omega (arith, are.fields))
    ∙ after_whole announced (6 + 3 * slice_index bytes 5) bytes (subst (λ (a : Bool). length bytes ≡ 6 + 3 * slice_index bytes 5 + part_size a (slice_index bytes (6 + 3 * slice_index bytes 5))) announces are.whole)
