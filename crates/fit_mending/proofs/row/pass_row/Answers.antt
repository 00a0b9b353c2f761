use Rattle.std.proofs.Common.{List, ℕ, sym, subst}
use Rattle.fit_grammar.specs.Calls.Table.{definition_in}
use Rattle.fit_mending.specs.Private.Passed.{HasLeft}
use Rattle.fit_mending.proofs.Riding.{left_more, all_passed}
use Rattle.fit_mending.proofs.row.pass_row.Goals as goal

pub loop-item-preserved : goal.loop-item-preserved
loop-item-preserved c = λ before items old are.
    let g = definition_in c.take_over.new.latest in
    subst (λ (l : List ℕ). HasLeft before items l g) (sym c.split_at.ensures.back)
    (left_more before items (definition_in c.loop-item.latest) g c.loop-item.rest.now c.in-Item.item c.in-Item.used
    (c.loop-item.invariant before items old are) c.in-Item.ensures c.take_over.ensures)

pub returns : goal.returns
returns c = λ before items old are.
    all_passed before items (definition_in c.loop-item.latest) c.loop-item.rest.now c.step_after.result
    (c.loop-item.invariant before items old are) c.step_after.ensures.states c.in_default.not-Item
