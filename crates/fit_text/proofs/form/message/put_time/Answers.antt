use Rattle.std.proofs.Common.{sym, ap, ◌∙◌}
use Rattle.fit_base.specs.declared.order.Arch.TheVariants.{Little}
use Rattle.fit_text.specs.Plan.{field_in, time_text}
use Rattle.fit_text.proofs.PenLemmas.{puts_same}
use Rattle.fit_text.proofs.form.message.put_time.Goals as goal

pub returns-in-Some-clause-text : goal.returns-in-Some-clause-text
returns-in-Some-clause-text g c =
    let plan = c.args.plan.now in
    let text = (g.F.Form.form c.args.form.now).field plan.utc plan.global in
    puts_same c.put_field.ensures.text
    (ap (λ bytes. text (field_in plan.time Little bytes)) c.to_le_bytes-bytes.ensures ∙ ap (time_text text plan.time) (sym c.in-Some.is))
