-- The items that are left continue after the first of them: for `Items::next`.
use Rattle.std.proofs.Common.{◌≡◌, ◌≢◌, ℕ, ◌≤◌, List, [], ◌∷◌, length, take, drop, Option, Some, refl, sym, ap, subst, ◌∙◌, arith, inl, inr}
use Rattle.std.proofs.Math.Path.{fun_ext}
use Rattle.std.proofs.lemmas.Bool.Decides.{eqb_tells}
use Rattle.std.proofs.lemmas.List.{length-take-le, length-drop}
use Rattle.fit_grammar.specs.declared.definition.Definition.{Definition}
use Rattle.fit_grammar.specs.declared.item.Item.{Item as ReadItem}
use Rattle.fit_grammar.specs.declared.item.Item.TheVariants as items
use Rattle.fit_grammar.specs.declared.item.Step.{Step}
use Rattle.fit_grammar.specs.declared.item.Step.TheVariants as steps
use Rattle.fit_grammar.specs.Format.Item.{Item, Defines}
use Rattle.fit_grammar.specs.Calls.Step.{item_of, ItemAtFront, StepReports, IsStepItem, IsStep}
use Rattle.fit_grammar.specs.Calls.Table.{in_force_after}
use Rattle.fit_grammar.specs.Private.ItemRow.{items_under, RecordsBy, AreRead, IsLentBy, IsFirst}
use Rattle.fit_grammar.proofs.OneItem.Spelling.{spelling_not_empty}
use Rattle.fit_grammar.proofs.OneItem.Steps.{items_one, only_item}
use Rattle.fit_grammar.proofs.KeptRow.ReadAgain.{items_under-read}

-- bytes that are read as a first item and others
record GoOn (f : ℕ → Option Definition) (bytes : List ℕ) : Type 0 where
  pub item : Item
  pub others : List Item
  pub items_are : items_under f bytes ≡ item ∷ others
  pub used : ℕ
  pub front : ItemAtFront f bytes item used
  pub read : RecordsBy (in_force_after item f) (drop used bytes) others

go_on : (f : ℕ → Option Definition) (bytes : List ℕ) (items : List Item) → items_under f bytes ≡ items → RecordsBy f bytes items
    → 1 ≤ length bytes → GoOn f bytes
go_on f bytes [] is r some = let none : length bytes ≡ 0 = ap length r in absurd (omega arith)
go_on f bytes (item ∷ others) is r some =
    record { item = item; others = others; items_are = is; used = r.0; front = r.1; read = r.2 }

goes_on : (f : ℕ → Option Definition) (bytes : List ℕ) → AreRead f bytes → 1 ≤ length bytes → GoOn f bytes
goes_on f bytes r some = go_on f bytes (items_under f bytes) refl r some

-- a step over them finds an item
step_item : (f : ℕ → Option Definition) (bytes : List ℕ) (step : Step) → GoOn f bytes → StepReports f bytes step
    → (item : Item) × (used : ℕ) × IsStepItem step item used
step_item f bytes step g states = (g.item, g.used, only_item f bytes step g.item g.used states g.front)

-- so it is an item
pub step_found : (f : ℕ → Option Definition) (bytes : List ℕ) (step : Step) → AreRead f bytes → 1 ≤ length bytes → StepReports f bytes step
    → ((item : ReadItem) (used : ℕ) → step ≡ steps.Item item used → ⊥) → ⊥
step_found f bytes (steps.Item item used) w some states none = none item used refl
step_found f bytes steps.NeedMore w some states none = (step_item f bytes steps.NeedMore (goes_on f bytes w some) states).2
step_found f bytes (steps.Refused fault) w some states none = (step_item f bytes (steps.Refused fault) (goes_on f bytes w some) states).2

lent_by : (f : ℕ → Option Definition) (bytes : List ℕ) (item : ReadItem) (used : ℕ)
    → IsStep f bytes (steps.Item item used) → IsLentBy f item
lent_by f bytes (items.Definition d) used step = step.local
lent_by f bytes (items.Data m) used step = step.lent

-- and it is the first of those that are left
pub first_is : (f : ℕ → Option Definition) (bytes : List ℕ) (item : ReadItem) (used : ℕ) → AreRead f bytes → 1 ≤ length bytes
    → IsStep f bytes (steps.Item item used) → IsFirst f bytes item (drop used bytes)
first_is f bytes item used r some step =
    let on = goes_on f bytes r some in
    let front : ItemAtFront f bytes (item_of item) used = step.states in
    let one = items_one f bytes on.item (item_of item) on.used used on.front front in
    let g = in_force_after (item_of item) f in
    let read : RecordsBy g (drop used bytes) on.others =
    subst (λ (n : ℕ). RecordsBy g (drop n bytes) on.others) one.1
    (subst (λ (i : Item). RecordsBy (in_force_after i f) (drop on.used bytes) on.others) one.0 on.read) in
    let again = items_under-read g (drop used bytes) on.others read in
    record {
      first = on.items_are ∙ ap (λ (i : Item). i ∷ on.others) one.0 ∙ ap (λ (l : List Item). item_of item ∷ l) (sym again);
      read = subst (RecordsBy g (drop used bytes)) (sym again) read;
      fewer = omega (
        arith,
        spelling_not_empty (item_of item) (take used bytes) front.spelled,
        length-take-le used bytes front.within,
        length-drop used bytes,
      );
      lent = lent_by f bytes item used step;
    }

-- the latest definitions after one more
pub latest_after : (old new : ℕ → Option Definition) (d : Definition) → new d.local ≡ Some d → ((l : ℕ) → l ≢ d.local → new l ≡ old l)
    → new ≡ in_force_after (Defines d) old
latest_after old new d taken others = fun_ext (λ l. at_local l)
  where
    at_local : (l : ℕ) → new l ≡ in_force_after (Defines d) old l
    at_local l =
        elim (eqb_tells d.local l) [
          | inl same ↦ rw (same.0) (ap new (sym same.1) ∙ taken)
          | inr other ↦ rw (other.0) (others l (λ e. other.1 (sym e)))
        ]
