use Rattle.std.proofs.Common.{◌≡◌, ℕ, ◌+◌, ◌≤◌, List, [], ◌∷◌, ◌++◌, length, take, drop, Option, refl, sym, ap, subst, ◌∙◌, append_assoc, arith}
use Rattle.std.proofs.Math.Seq.{take-add, take-append_seam}
use Rattle.std.proofs.lemmas.List.{length-append, length-drop, length-take, take-append-drop, take_rest}
use Rattle.fit_grammar.specs.declared.definition.Definition.{Definition}
use Rattle.fit_grammar.specs.declared.item.Item.{Item as ReadItem}
use Rattle.fit_grammar.specs.declared.item.Step.{Step}
use Rattle.fit_grammar.specs.declared.item.Step.TheVariants as steps
use Rattle.fit_grammar.specs.Format.Item.{Item, Spells}
use Rattle.fit_grammar.specs.Format.Records.{Records, IsDefinedBy}
use Rattle.fit_grammar.specs.Calls.LongestFront.{IsLongestFront}
use Rattle.fit_grammar.specs.Calls.Step.{item_of, ItemAtFront, IsStepItem, StepReports}
use Rattle.fit_grammar.specs.Calls.Table.{in_force_after, definition_in}
use Rattle.fit_grammar.specs.Private.FrontPassed.{HasPassed}
use Rattle.fit_grammar.proofs.OneItem.Steps.{only_item}
use Rattle.fit_grammar.proofs.Decoding.Alignment.{GoesOn, longer, shorter, aligned}
use Rattle.fit_grammar.proofs.Decoding.Reached.{records_more}
use Rattle.fit_grammar.proofs.KeptRow.ByLookup.{in_force_after-in_force}
use Rattle.fit_grammar.proofs.item.front.longest_front.Goals as goal

-- an item at the front of what is left is passed too
passes_more : (f g : ℕ → Option Definition) (bytes : List ℕ) (front : ℕ) (item : Item) (used : ℕ) → HasPassed f bytes front
    → ItemAtFront f (drop front bytes) item used → g ≡ in_force_after item f → HasPassed g bytes (front + used)
passes_more f g bytes front item used p at e =
    let own = take used (drop front bytes) in
    let defined = subst (λ (h : ℕ → Option Definition). IsDefinedBy h item) p.in_force_are at.defined in
    record {
      within = omega (arith, p.within, at.within, length-drop front bytes);
      items = p.items ++ item ∷ [];
      are_records = subst (λ (l : List ℕ). Records l (p.items ++ item ∷ [])) (sym (take-add front used bytes))
          (records_more [] (take front bytes) p.items item own p.are_records at.spelled defined);
      in_force_are = e ∙ ap (in_force_after item) p.in_force_are ∙ in_force_after-in_force p.items item;
    }

-- no item is at the front of what is left
abbrev Ends : (ℕ → Option Definition) → List ℕ → Type 0
Ends f window = (item : Item) (used : ℕ) → ItemAtFront f window item used → ⊥

at_front : (f : ℕ → Option Definition) (window own rest : List ℕ) (item : Item) → window ≡ own ++ rest → Spells item own
    → IsDefinedBy f item → ItemAtFront f window item (length own)
at_front f window own rest item e spelled defined = record {
  within = omega (arith, ap length e, length-append own rest);
  spelled = subst (Spells item) (sym (ap (λ (l : List ℕ). take (length own) l) e ∙ take-append_seam own rest)) spelled;
  defined = defined;
}

-- so a row that continues the passed one has no more items
no_further : (f : ℕ → Option Definition) (bytes : List ℕ) (front n : ℕ) (others more : List Item) (p : HasPassed f bytes front)
    → Ends f (drop front bytes) → n ≤ length bytes
    → GoesOn [] (take front bytes) p.items (drop front bytes) (take n bytes) others (drop n bytes) more → n ≤ front
no_further f bytes front n others [] p ends le g =
    omega (
      arith,
      le,
      ap length g.goes_on,
      ap length g.bytes_are,
      length-append (take front bytes) g.bytes,
      length-take front bytes,
      length-take n bytes,
    )
no_further f bytes front n others (item ∷ more) p ends le g =
    let first = g.goes_on.1 in
    let joined : drop front bytes ≡ first.own ++ (g.goes_on.0 ++ drop n bytes) = g.rest_is
    ∙ ap (λ (l : List ℕ). l ++ drop n bytes) first.joined ∙ append_assoc first.own g.goes_on.0 (drop n bytes) in
    let defined = subst (λ (h : ℕ → Option Definition). IsDefinedBy h item) (sym p.in_force_are) first.defined in
    absurd (ends item (length first.own)
    (at_front f (drop front bytes) first.own (g.goes_on.0 ++ drop n bytes) item joined first.spelled defined))

no_longer : (f : ℕ → Option Definition) (bytes : List ℕ) (front n : ℕ) (others : List Item) (p : HasPassed f bytes front)
    → Ends f (drop front bytes) → n ≤ length bytes → Records (take n bytes) others → n ≤ front
no_longer f bytes front n others p ends le r =
    let joined = take-append-drop front bytes ∙ sym (take-append-drop n bytes) in
    elim (aligned [] (take front bytes) p.items (drop front bytes) (take n bytes) others (drop n bytes) p.are_records r joined) [
      | longer more g ↦ no_further f bytes front n others more p ends le g
      | shorter item more g ↦ omega (
        arith,
        le,
        ap length g.bytes_are,
        length-append (take n bytes) g.bytes,
        length-take front bytes,
        length-take n bytes,
      )
    ]

longest : (f : ℕ → Option Definition) (bytes : List ℕ) (front : ℕ) → HasPassed f bytes front → Ends f (drop front bytes)
    → IsLongestFront bytes front
longest f bytes front p ends = record {
  within = p.within;
  items = p.items;
  are_records = p.are_records;
  longest = λ n others le r. no_longer f bytes front n others p ends le r;
}

-- a step that found no item
no_item : (step : Step) (item : Item) (used : ℕ) → ((found : ReadItem) (count : ℕ) → step ≡ steps.Item found count → ⊥)
    → IsStepItem step item used → ⊥
no_item (steps.Item found count) item used none is = none found count refl
no_item steps.NeedMore item used none is = is
no_item (steps.Refused fault) item used none is = is

step_ends : (f : ℕ → Option Definition) (window : List ℕ) (step : Step) → StepReports f window step
    → ((found : ReadItem) (count : ℕ) → step ≡ steps.Item found count → ⊥) → Ends f window
step_ends f window step states none = λ item used at. no_item step item used none (only_item f window step item used states at)

pub loop-item-preserved : goal.loop-item-preserved
loop-item-preserved c =
    let f = definition_in c.loop-item.latest in
    passes_more f (definition_in c.take_over.new.latest) c.args.bytes.now c.loop-item.front (item_of c.in-Item.item) c.in-Item.used
    c.loop-item.invariant (rw take_rest at c.in-Item.ensures.states) c.take_over.ensures

pub returns : goal.returns
returns c =
    let f = definition_in c.loop-item.latest in
    longest f c.args.bytes.now c.loop-item.front c.loop-item.invariant
    (step_ends f (drop c.loop-item.front c.args.bytes.now) c.step_after.result (rw take_rest at c.step_after.ensures.states)
    c.in_default.not-Item)
