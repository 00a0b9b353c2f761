-- Rows of items, one after another.
use Rattle.std.proofs.Common.{◌≡◌, ℕ, ◌+◌, List, [], ◌∷◌, ◌++◌, length, take, drop, Option, Some, None, refl, sym, ap, subst, ◌∙◌, append_assoc, append-nil, arith}
use Rattle.std.proofs.Math.Seq.{take-add}
use Rattle.std.proofs.lemmas.List.{length-append, length-drop}
use Rattle.fit_grammar.specs.declared.definition.Definition.{Definition}
use Rattle.fit_grammar.specs.Format.Item.{Item, Defines, Data, content_size}
use Rattle.std.specs.Prelude.{IsSomeAnd}
use Rattle.fit_grammar.specs.Format.Records.{RecordsAfter, IsDefinedBy, definition_by, in_force}
use Rattle.fit_grammar.specs.Calls.Step.{ItemAtFront}
use Rattle.fit_grammar.specs.Calls.Table.{in_force_after}
use Rattle.fit_grammar.proofs.Decoding.Reached.{records_more}
use Rattle.fit_grammar.proofs.OneItem.Spelling.{spelling_not_empty}
use Rattle.fit_grammar.proofs.KeptRow.ByLookup.{in_force_after-in_force}
use Rattle.std.specs.Option.{option_or}
use Rattle.fit_mending.specs.Private.Passed.{HasPassed}

-- two rows, of which the second is under the definitions of the first
pub records_append : (before : List Item) (a : List ℕ) (xs : List Item) (b : List ℕ) (ys : List Item) → RecordsAfter before a xs
    → RecordsAfter (before ++ xs) b ys → RecordsAfter before (a ++ b) (xs ++ ys)
records_append before a [] b ys r s =
    subst (λ (l : List ℕ). RecordsAfter before (l ++ b) ys) (sym r)
    (subst (λ (is : List Item). RecordsAfter is b ys) (append-nil before) s)
records_append before a (item ∷ items) b ys r s = (
  r.0 ++ b,
  record {
    own = r.1.own;
    joined = ap (λ (l : List ℕ). l ++ b) r.1.joined ∙ append_assoc r.1.own r.0 b;
    spelled = r.1.spelled;
    defined = r.1.defined;
  },
  records_append (before ++ item ∷ []) r.0 items b ys r.2
      (subst (λ (is : List Item). RecordsAfter is b ys) (sym (append_assoc before (item ∷ []) items)) s),
)

-- an item at the front of what is left is passed too
pub passes_more : (before : List Item) (f g : ℕ → Option Definition) (bytes : List ℕ) (front : ℕ) (item : Item) (used : ℕ)
    → HasPassed before bytes front f → ItemAtFront f (drop front bytes) item used → g ≡ in_force_after item f
    → HasPassed before bytes (front + used) g
passes_more before f g bytes front item used p at e =
    let own = take used (drop front bytes) in
    let defined = subst (λ (h : ℕ → Option Definition). IsDefinedBy h item) p.in_force_are at.defined in
    record {
      within = omega (arith, p.within, at.within, length-drop front bytes);
      items = p.items ++ item ∷ [];
      are_records = subst (λ (l : List ℕ). RecordsAfter before l (p.items ++ item ∷ [])) (sym (take-add front used bytes))
          (records_more before (take front bytes) p.items item own p.are_records at.spelled defined);
      in_force_are = e ∙ ap (in_force_after item) p.in_force_are ∙ in_force_after-in_force (before ++ p.items) item
          ∙ ap in_force (append_assoc before p.items (item ∷ []));
    }

-- no bytes are a row of no items
pub no_items : (before : List Item) (bytes : List ℕ) (items : List Item) → RecordsAfter before bytes items → length bytes ≡ 0 → items ≡ []
no_items before bytes [] r none = refl
no_items before bytes (item ∷ items) r none =
    absurd (omega (arith, none, ap length r.1.joined, length-append r.1.own r.0, spelling_not_empty item r.1.own r.1.spelled))

-- definitions that are in force after some items are so after others before them too
or_assoc : (a b c : Option Definition) → option_or a (option_or b c) ≡ option_or (option_or a b) c
or_assoc (Some d) b c = refl
or_assoc None b c = refl

pub in_force-after : (before items : List Item) (l : ℕ) → in_force (before ++ items) l ≡ option_or (in_force items l) (in_force before l)
in_force-after [] items l = or_none (in_force items l)
  where
    or_none : (a : Option Definition) → a ≡ option_or a None
    or_none (Some d) = refl
    or_none None = refl
in_force-after (item ∷ before) items l =
    ap (λ (o : Option Definition). option_or o (definition_by item l)) (in_force-after before items l)
    ∙ sym (or_assoc (in_force items l) (in_force before l) (definition_by item l))

some_or : (a b : Option Definition) (P : Definition → Type 0) → IsSomeAnd a P → IsSomeAnd (option_or a b) P
some_or (Some d) b P is = is
some_or None b P is = absurd is

defined_under : (before items : List Item) (item : Item) → IsDefinedBy (in_force items) item → IsDefinedBy (in_force (before ++ items)) item
defined_under before items (Defines d) is = tt
defined_under before items (Data local offset content) is =
    subst (λ (o : Option Definition). IsSomeAnd o (λ d. content_size d ≡ length content)) (sym (in_force-after before items local))
    (some_or (in_force items local) (in_force before local) (λ d. content_size d ≡ length content) is)

-- so a row of items is one after others
pub records_under : (before after : List Item) (bytes : List ℕ) (items : List Item) → RecordsAfter after bytes items
    → RecordsAfter (before ++ after) bytes items
records_under before after bytes [] are = are
records_under before after bytes (item ∷ items) are = (
  are.0,
  record {
    own = are.1.own;
    joined = are.1.joined;
    spelled = are.1.spelled;
    defined = defined_under before after item are.1.defined;
  },
  subst (λ (is : List Item). RecordsAfter is are.0 items) (sym (append_assoc before after (item ∷ [])))
      (records_under before (after ++ item ∷ []) are.0 items are.2),
)

pub records_after : (before : List Item) (bytes : List ℕ) (items : List Item) → RecordsAfter [] bytes items → RecordsAfter before bytes items
records_after before bytes items are =
    subst (λ (is : List Item). RecordsAfter is bytes items) (append-nil before) (records_under before [] bytes items are)
