use Rattle.std.proofs.Common.{◌≡◌, sym, ap, ◌∙◌, None, get_or, length, arith}
use Rattle.std.specs.Option.{is_some}
use Rattle.std.proofs.lemmas.List.{get_or_read_under}
use Rattle.fit_columns.proofs.PlanLemmas.{noted_there}
use Rattle.fit_columns.proofs.plans.Plans.settle.Goals as goal

pub returns-else-is_none-clause-noted : goal.returns-else-is_none-clause-noted
returns-else-is_none-clause-noted c = λ definition_for found h.
    let slots = c.args.self.now.slots in
    let slot = c.index-self-from.result in
    let many : 16 ≡ length slots = omega arith in
    let there = get_or_read_under slots c.from.result 16 slot None c.index-self-from.is (omega (arith, c.from.ensures, c.requires.local)) many in
    noted_there c.args.codes.now c.args.held.now definition_for c.args.definition.now c.args.self.now c.args.local slot
    (ap (λ k. get_or slots k None) (sym c.from.ensures) ∙ sym there) (ap is_some c.index-self-from.is ∙ c.if-is_none.ensures) found h
