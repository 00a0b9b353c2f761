use Rattle.std.proofs.Common.{ℕ, List, sym, ap, subst, ◌∙◌}
use Rattle.fit_grammar.specs.Private.ItemRow.{IsFirst}
use Rattle.fit_grammar.specs.Calls.Table.{definition_in}
use Rattle.fit_grammar.proofs.KeptRow.Left.{step_found, first_is}
use Rattle.fit_grammar.proofs.item.row.first_item.Goals as goal

pub unreachable-requires : goal.unreachable-requires
unreachable-requires c =
    let f = definition_in c.args.latest.now in
    let step = c.step_under.ensures f (sym (c.get-definition.ensures ∙ ap f c.first_local.ensures)) in
    step_found f c.args.bytes.now c.step_under.result c.requires.read c.requires.some step.states c.in_default.not-Item

pub split_at-requires : goal.split_at-requires
split_at-requires c =
    let f = definition_in c.args.latest.now in
    (c.in-Item.ensures f (sym (c.get-definition.ensures ∙ ap f c.first_local.ensures))).states.within

pub returns : goal.returns
returns c =
    let f = definition_in c.args.latest.now in
    let step = c.in-Item.ensures f (sym (c.get-definition.ensures ∙ ap f c.first_local.ensures)) in
    subst (λ (others : List ℕ). IsFirst f c.args.bytes.now c.in-Item.item others) (sym c.split_at.ensures.back)
    (first_is f c.args.bytes.now c.in-Item.item c.in-Item.used c.requires.read c.requires.some step)
