use Rattle.std.proofs.Common.{refl, sym, ◌∙◌, arith}
use Rattle.fit_text.proofs.PenLemmas.{leaves_all, leaves_less, leaves_off}
use Rattle.fit_text.proofs.PlanLemmas.{first_size, first_after, no_after}
use Rattle.fit_text.proofs.FormLemmas.{next_column, first_named, other_named}
use Rattle.fit_text.proofs.form.message.put_columns.Goals as goal

pub loop-left-init : goal.loop-left-init
loop-left-init g c = record { named = c.requires.named; within = c.requires.within; after = refl; same = refl; put = leaves_all _ _ }

pub put_field-requires-clause-column : goal.put_field-requires-clause-column
put_field-requires-clause-column g c =
    let plan = c.args.plan.now in
    first_named plan.utc plan.global c.loop-left.left.now c.column-item.result
    c.in-len1-up.len_at_least c.column-item.is c.loop-left.invariant.named

pub returns-in_err-put_field-clause-text : goal.returns-in_err-put_field-clause-text
returns-in_err-put_field-clause-text g c =
    let plan = c.args.plan.now in
    let form = g.F.Form.form c.args.form.now in
    leaves_off _ c.from_residual.ensures.0 c.loop-left.invariant.put (rw c.loop-left.invariant.same at c.in_err-put_field.ensures.text)
    (next_column form.notation.between c.loop-left.first (form.field plan.utc plan.global) plan.arch c.loop-left.left.now c.column-item.result
    c.loop-left.rest.now _ _ _ c.in-len1-up.len_at_least c.column-item.is c.split_at.ensures.front c.split_at.ensures.back c.from.ensures)

pub loop-left-preserved : goal.loop-left-preserved
loop-left-preserved g c =
    let left = c.loop-left.left.now in
    let column = c.column-item.result in
    let plan = c.args.plan.now in
    let form = g.F.Form.form c.args.form.now in
    let size = first_size left column c.in-len1-up.len_at_least c.column-item.is in
    record {
      named = other_named plan.utc plan.global left c.in-len1-up.len_at_least c.loop-left.invariant.named;
      within = omega (arith, size, c.loop-left.invariant.within, c.split_at.ensures.back_len, c.from.ensures);
      after = first_after left column c.loop-left.rest.now _ _ c.in-len1-up.len_at_least c.column-item.is c.split_at.ensures.back c.from.ensures
          ∙ c.loop-left.invariant.after;
      same = c.in_ok-put_field.ensures.same ∙ c.loop-left.invariant.same;
      put = leaves_less _ c.loop-left.invariant.put (rw c.loop-left.invariant.same at c.in_ok-put_field.ensures.text)
          (next_column form.notation.between c.loop-left.first (form.field plan.utc plan.global) plan.arch left column c.loop-left.rest.now _ _ _
          c.in-len1-up.len_at_least c.column-item.is c.split_at.ensures.front c.split_at.ensures.back c.from.ensures);
    }

pub returns-clause-after : goal.returns-clause-after
returns-clause-after g c =
    sym (no_after c.loop-left.left.now c.loop-left.rest.now c.in_default.len_below) ∙ c.loop-left.invariant.after
