use Rattle.std.proofs.Common.{◌≡◌, ℕ, ◌∷◌, Option, length, sym, ap, subst, ◌∙◌, arith}
use Rattle.fit_grammar.specs.declared.definition.Definition.{Definition}
use Rattle.fit_grammar.specs.declared.item.Item.TheVariants as items
use Rattle.fit_grammar.specs.Format.Item.{Defines}
use Rattle.fit_grammar.specs.Calls.Table.{definition_in, in_force_after}
use Rattle.fit_grammar.specs.Calls.LentItem.{DefinesHere}
use Rattle.fit_grammar.specs.Private.ByLookup.{lent_items_by}
use Rattle.fit_grammar.specs.Private.ItemRow.{items_under, AreRead, IsFirst}
use Rattle.fit_grammar.proofs.KeptRow.Left.{latest_after}
use Rattle.fit_grammar.proofs.item.row.ItemsIterator.next.Goals as goal

-- the definitions after the one that was taken
taken : (c : goal.After-take)
    → definition_in c.take.new.self ≡ in_force_after (Defines c.in-Definition.definition) (definition_in c.self.inside.latest)
taken c =
    latest_after (definition_in c.self.inside.latest) (definition_in c.take.new.self) c.in-Definition.definition
    c.take.ensures.taken c.take.ensures.others

first : (c : goal.After-take) → IsFirst (definition_in c.self.inside.latest) c.self.inside.rest.now
    (items.Definition c.in-Definition.definition) c.first_item-item.result.1.now
first c = rw c.in-Definition.is at c.first_item-item.ensures

pub invariant_of-self : goal.invariant_of-self
invariant_of-self c =
    subst (λ (f : ℕ → Option Definition). AreRead f c.first_item-item.result.1.now) (sym (taken c)) (first c).read

pub returns-in-Definition-clause-steps : goal.returns-in-Definition-clause-steps
returns-in-Definition-clause-steps c =
    let d = c.in-Definition.definition in
    let rest = c.first_item-item.result.1.now in
    let time = c.self.inside.time in
    sym c.self.view_is
    ∙ ap (lent_items_by (definition_in c.self.inside.latest) time) (first c).first
    ∙ ap (λ (f : ℕ → Option Definition). DefinesHere d ∷ lent_items_by f time (items_under f rest)) (sym (taken c))

pub returns-in-Definition-clause-goes : goal.returns-in-Definition-clause-goes
returns-in-Definition-clause-goes c =
    let fewer = ap length (returns-in-Definition-clause-steps c) in
    record { on = λ finite. (tt, tt, omega (arith, fewer)); keeps = tt; rests = λ finite. tt }
