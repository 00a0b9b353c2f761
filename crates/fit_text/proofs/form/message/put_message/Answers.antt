use Rattle.std.proofs.Common.{◌∙◌, ap, length, sum_by, refl, arith}
use Rattle.std.proofs.lemmas.List.{length-drop}
use Rattle.fit_grammar.specs.Format.Message.{message_under}
use Rattle.fit_text.proofs.EmptyLemmas.{developer_shown_size}
use Rattle.fit_text.proofs.PenLemmas.{puts_then, puts_stop, puts_same}
use Rattle.fit_text.proofs.PlanLemmas.{plan_size}
use Rattle.fit_text.proofs.FormLemmas.{line_head, plan_line, plan_named, time_named, flipped}
use Rattle.fit_text.proofs.form.message.put_message.Goals as goal

pub put_time-requires-clause-named : goal.put_time-requires-clause-named
put_time-requires-clause-named g c =
    time_named _ c.args.message.now.definition c.args.plan.now c.args.columns.now c.args.developer.now c.requires

pub put_columns-requires-clause-named : goal.put_columns-requires-clause-named
put_columns-requires-clause-named g c =
    plan_named _ c.args.message.now.definition c.args.plan.now c.args.columns.now c.args.developer.now c.requires

pub put_columns-requires-clause-within : goal.put_columns-requires-clause-within
put_columns-requires-clause-within g c =
    omega (
      arith,
      plan_size _ c.args.message.now.definition c.args.plan.now c.args.columns.now c.args.developer.now c.requires,
      c.args.message.now.whole,
    )

pub put_developer_fields-requires : goal.put_developer_fields-requires
put_developer_fields-requires g c =
    let size = plan_size _ c.args.message.now.definition c.args.plan.now c.args.columns.now c.args.developer.now c.requires in
    let content = c.args.message.now.content.now in
    omega (
      arith,
      size,
      ap (λ fields. sum_by (λ field. field.size) fields) c.requires.developer
          ∙ developer_shown_size _ c.args.message.now.definition.developer.items,
      ap length c.in_ok-after.ensures.after,
      length-drop (sum_by (λ column. column.size) c.args.columns.now) content,
      c.args.message.now.whole,
    )

pub returns-in_err-put_head-clause-text : goal.returns-in_err-put_head-clause-text
returns-in_err-put_head-clause-text g c =
    let message = c.args.message.now in
    puts_same (puts_stop c.from_residual.ensures.0 c.in_err-put_head.ensures _)
    (line_head (g.F.Form.form c.args.form.now) c.args.plan.now.utc c.args.number c.args.plan.now.global
    (message_under message.definition c.args.time message.content.now) c.requires.global)

pub returns-in_err-put_time-clause-text : goal.returns-in_err-put_time-clause-text
returns-in_err-put_time-clause-text g c =
    let message = c.args.message.now in
    puts_same (puts_then c.in_ok-put_head.ensures (puts_stop c.from_residual-in_err-put_time.ensures.0 c.in_err-put_time.ensures.text _))
    (plan_line (g.F.Form.form c.args.form.now) c.args.number message.definition c.args.time message.content.now c.args.plan.now
    c.args.columns.now c.args.developer.now _ _ _ c.in_err-put_time.ensures.fits refl message.whole
    refl
    refl c.requires)

pub returns-in_err-after-clause-text : goal.returns-in_err-after-clause-text
returns-in_err-after-clause-text g c =
    let message = c.args.message.now in
    puts_same (puts_then c.in_ok-put_head.ensures (puts_then c.in_ok-put_time.ensures.text (puts_stop c.from_residual-in_err-after.ensures.0
    (rw c.in_ok-put_time.ensures.same at c.in_err-after.ensures.text) _)))
    (plan_line (g.F.Form.form c.args.form.now) c.args.number message.definition c.args.time message.content.now c.args.plan.now
    c.args.columns.now c.args.developer.now _ _ _ c.in_ok-put_time.ensures.fits (flipped _ _ c.is_none.ensures) message.whole
    refl
    refl c.requires)

pub returns-in_err-put-clause-text : goal.returns-in_err-put-clause-text
returns-in_err-put-clause-text g c =
    let message = c.args.message.now in
    let kept = c.in_ok-after.ensures.same ∙ c.in_ok-put_time.ensures.same in
    puts_same (puts_then c.in_ok-put_head.ensures (puts_then c.in_ok-put_time.ensures.text
    (puts_then (rw c.in_ok-put_time.ensures.same at c.in_ok-after.ensures.text) (puts_stop c.from_residual-in_err-put.ensures.0 c.in_err-put.ensures _))))
    (plan_line (g.F.Form.form c.args.form.now) c.args.number message.definition c.args.time message.content.now c.args.plan.now
    c.args.columns.now c.args.developer.now _ _ _ c.in_ok-put_time.ensures.fits (flipped _ _ c.is_none.ensures) message.whole
    (ap (λ notation. notation.middle) c.notation.ensures ∙ ap (λ form. form.notation.middle) kept)
    refl c.requires)

pub returns-in_err-put_developer_fields-clause-text : goal.returns-in_err-put_developer_fields-clause-text
returns-in_err-put_developer_fields-clause-text g c =
    let message = c.args.message.now in
    let kept = c.in_ok-after.ensures.same ∙ c.in_ok-put_time.ensures.same in
    puts_same (puts_then c.in_ok-put_head.ensures (puts_then c.in_ok-put_time.ensures.text
    (puts_then (rw c.in_ok-put_time.ensures.same at c.in_ok-after.ensures.text) (puts_then c.in_ok-put.ensures
    (puts_stop c.from_residual-in_err-put_developer_fields.ensures.0 (rw (kept, c.in_ok-after.ensures.after) at c.in_err-put_developer_fields.ensures) _)))))
    (plan_line (g.F.Form.form c.args.form.now) c.args.number message.definition c.args.time message.content.now c.args.plan.now
    c.args.columns.now c.args.developer.now _ _ _ c.in_ok-put_time.ensures.fits (flipped _ _ c.is_none.ensures) message.whole
    (ap (λ notation. notation.middle) c.notation.ensures ∙ ap (λ form. form.notation.middle) kept)
    refl c.requires)

pub returns-clause-text : goal.returns-clause-text
returns-clause-text g c =
    let message = c.args.message.now in
    let kept = c.in_ok-after.ensures.same ∙ c.in_ok-put_time.ensures.same in
    puts_same (puts_then c.in_ok-put_head.ensures (puts_then c.in_ok-put_time.ensures.text
    (puts_then (rw c.in_ok-put_time.ensures.same at c.in_ok-after.ensures.text)
    (puts_then c.in_ok-put.ensures (puts_then (rw (kept, c.in_ok-after.ensures.after) at c.in_ok-put_developer_fields.ensures) c.put-2.ensures)))))
    (plan_line (g.F.Form.form c.args.form.now) c.args.number message.definition c.args.time message.content.now c.args.plan.now
    c.args.columns.now c.args.developer.now _ _ _ c.in_ok-put_time.ensures.fits (flipped _ _ c.is_none.ensures) message.whole
    (ap (λ notation. notation.middle) c.notation.ensures ∙ ap (λ form. form.notation.middle) kept)
    (ap (λ notation. notation.end) c.notation-2.ensures ∙ ap (λ form. form.notation.end) kept) c.requires)
