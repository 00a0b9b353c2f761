use Rattle.std.proofs.Common.{◌∙◌, sym}
use Rattle.fit_text.proofs.PlanLemmas.{kind_shows, other_shows, other_size}
use Rattle.fit_text.proofs.form.plan.kind_of_type.Goals as goal

pub returns-then-size-from : goal.returns-then-size-from
returns-then-size-from c =
    kind_shows c.args.dates.now c.args.field.now.number c.args.field.now.base c.args.field.now.size c.args.base _
    c.requires (sym c.from.ensures ∙ sym c.if-size-from.true ∙ c.size.ensures) (rw c.contains.ensures.value at c.kind_of_one.ensures)

pub returns-else-size-from : goal.returns-else-size-from
returns-else-size-from c =
    other_shows c.args.dates.now c.args.field.now.number c.args.field.now.base c.args.field.now.size
    (other_size c.args.field.now.base c.args.field.now.size c.args.base c.requires
    (λ same. c.if-size-from.false (c.size.ensures ∙ sym same ∙ sym c.from.ensures)))
