-- The least length of the item at the front of a window, against each spelling that continues the window: for `least_length`.
use Rattle.std.proofs.Common.{◌≡◌, ℕ, ◌+◌, ◌*◌, ◌<◌, Bool, true, false, List, [], ◌∷◌, ◌++◌, length, Option, Some, None, Result, Ok, Err, refl, sym, ap, subst, ◌∙◌, inl, inr, arith}
use Rattle.std.specs.Prelude.{IsSomeAnd, IfOk, slice_index}
use Rattle.std.proofs.lemmas.Bool.{cases_lt, lt-ltb, le-ltb}
use Rattle.std.proofs.lemmas.List.{append-nil, get_or_append_left}
use Rattle.fit_grammar.specs.declared.definition.Definition.{Definition}
use Rattle.fit_grammar.specs.declared.item.ItemFault.{ItemFault}
use Rattle.fit_grammar.specs.Format.Item.{Item, Defines, Data, Head, Spells, SpellsDefinition, content_size, part_size}
use Rattle.fit_grammar.specs.Format.Records.{IsDefinedBy}
use Rattle.fit_grammar.specs.Calls.Step.{IsLeastLength, least_length_of, length_by, after_fields, definition_length_of, data_length_of}
use Rattle.fit_grammar.proofs.OneItem.Spelling.{spelling_not_empty, definition_length, definition_count, developer_count, data_length}
use Rattle.fit_grammar.proofs.OneItem.DefinitionRead.{few_fields, all_fields}
use Rattle.fit_grammar.proofs.OneItem.Steps.{item_head, spelling_head}

abbrev result : {A : Type 0} → A → Result A ItemFault
result x = Ok x

ok_one : (a b : ℕ) → result a ≡ result b → a ≡ b
ok_one a b e = cc

-- the least length after the fields, if the announced part has so many developer fields
pub part_least : (announced : Bool) (end count whole : ℕ) (window : List ℕ) → whole ≡ end + part_size announced count
    → (announced ≡ true → end < length window → slice_index window end ≡ count)
    → IsLeastLength (after_fields announced end window) (length window) whole
part_least false end count whole window long there = record { least = omega (arith, long); exact = λ _. omega (arith, long) }
part_least true end count whole window long there =
    elim (cases_lt end (length window)) [
      | inl lt ↦
          let all : after_fields true end window ≡ whole =
          (let e : after_fields true end window ≡ end + part_size true (slice_index window end) = rw (lt-ltb _ _ lt) refl in
          e ∙ ap (λ (n : ℕ). end + part_size true n) (there refl lt) ∙ sym long) in
          record { least = omega (arith, all); exact = λ _. all }
      | inr ge ↦
          let one : after_fields true end window ≡ end + part_size true 0 = rw (le-ltb _ _ ge) refl in
          record { least = omega (arith, one, long); exact = λ le. absurd (omega (arith, one, le)) }
    ]

definition_least : (d : Definition) (window rest : List ℕ) (p : SpellsDefinition d (window ++ rest))
    → IsLeastLength (definition_length_of p.announced window) (length window) (length (window ++ rest))
definition_least d window rest p =
    let whole = definition_length d (window ++ rest) p in
    elim (cases_lt (length window) 6) [
      | inl short ↦
          let six = few_fields p.announced window short in
          record { least = omega (arith, six, whole); exact = λ long. absurd (omega (arith, six, long)) }
      | inr long ↦
          let count : slice_index window 5 ≡ length d.fields.items =
          sym (get_or_append_left window rest 0 5 (omega arith)) ∙ definition_count d (window ++ rest) p in
          let end = 6 + 3 * slice_index window 5 in
          let least = part_least p.announced end (length d.developer.items) (length (window ++ rest)) window
          (omega (arith, whole, count)) (λ announced there. sym (get_or_append_left window rest 0 end there)
          ∙ ap (λ (n : ℕ). slice_index (window ++ rest) (6 + 3 * n)) count ∙ developer_count d (window ++ rest) p announced) in
          subst (λ (n : ℕ). IsLeastLength n (length window) (length (window ++ rest))) (sym (all_fields p.announced window long)) least
    ]

data_least : (o : Option Definition) (local n : ℕ) (content : List ℕ) (window whole : ℕ) → whole ≡ 1 + length content
    → IsSomeAnd o (λ d. content_size d ≡ length content) → data_length_of local o ≡ Ok n → n ≡ whole
data_least None local n content window whole long defined e = absurd defined
data_least (Some d) local n content window whole long defined e =
    sym (ok_one (1 + content_size d) n e) ∙ ap (λ (k : ℕ). 1 + k) defined ∙ sym long

by_head : (f : ℕ → Option Definition) (i : Item) (window rest : List ℕ) (n : ℕ) (p : Spells i (window ++ rest)) → IsDefinedBy f i
    → length_by f (item_head i (window ++ rest) p) window ≡ Ok n → IsLeastLength n (length window) (length (window ++ rest))
by_head f (Defines d) window rest n p defined e =
    subst (λ (k : ℕ). IsLeastLength k (length window) (length (window ++ rest)))
    (ok_one (definition_length_of p.announced window) n e) (definition_least d window rest p)
by_head f (Data local offset content) window rest n p defined e =
    let same = data_least (f local) local n content (length window) (length (window ++ rest))
    (data_length local offset content (window ++ rest) p) defined e in
    record { least = omega arith; exact = λ _. same }

-- the least length of a window holds for each spelling that continues it
pub least_length_holds : (f : ℕ → Option Definition) (i : Item) (window rest : List ℕ) (n : ℕ) → Spells i (window ++ rest) → IsDefinedBy f i
    → least_length_of f window ≡ Ok n → IsLeastLength n (length window) (length (window ++ rest))
least_length_holds f i [] rest n p defined e =
    let one : 1 ≡ n = ok_one 1 n e in
    let some = spelling_not_empty i rest p in
    record { least = omega arith; exact = λ long. absurd (omega arith) }
least_length_holds f i (first ∷ window) rest n p defined e =
    let head = spelling_head i ((first ∷ window) ++ rest) [] (window ++ rest) first p (append-nil ((first ∷ window) ++ rest)) in
    by_head f i (first ∷ window) rest n p defined (ap (λ (h : Head). length_by f h (first ∷ window)) (sym head) ∙ e)

-- the same for what a function returned
pub answer_holds : (f : ℕ → Option Definition) (i : Item) (window rest : List ℕ) (answer : Result ℕ ItemFault)
    → answer ≡ least_length_of f window
    → Spells i (window ++ rest) → IsDefinedBy f i → IfOk answer (λ n. IsLeastLength n (length window) (length (window ++ rest)))
answer_holds f i window rest (Ok n) e p defined = least_length_holds f i window rest n p defined (sym e)
answer_holds f i window rest (Err fault) e p defined = tt
