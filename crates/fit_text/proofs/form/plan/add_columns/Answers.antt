use Rattle.std.proofs.Common.{◌≡◌, ◌++◌, ◌∷◌, [], length, length-append, append-nil, append_assoc, refl, sym, ap, ◌∙◌, arith}
use Rattle.fit_text.proofs.PlanLemmas.{columns_length, columns_more, left_over, next_field}
use Rattle.fit_text.proofs.form.plan.add_columns.Goals as goal

pub loop-rest-init : goal.loop-rest-init
loop-rest-init c = ([], [], refl, sym (append-nil _), tt)

pub push-requires : goal.push-requires
push-requires c =
    let done = c.loop-rest.invariant.0 in
    let own = c.loop-rest.invariant.1 in
    let many = columns_length _ _ done own c.loop-rest.invariant.4 in
    let all = ap length c.loop-rest.invariant.2 in
    let row = ap length c.loop-rest.invariant.3 in
    omega (arith, many, all, row, length-append done c.loop-rest.rest.now, length-append c.args.columns.now.items own)

pub loop-rest-preserved : goal.loop-rest-preserved
loop-rest-preserved c =
    let done = c.loop-rest.invariant.0 in
    let own = c.loop-rest.invariant.1 in (
      _,
      own ++ c.new.result ∷ [],
      next_field done c.loop-rest.rest.now _ (record { number = 0; size = 0; base = 0 }) c.loop-rest.invariant.2 c.in-len1-up.len_at_least,
      c.push.ensures.items ∙ ap (λ row. row ++ c.new.result ∷ []) c.loop-rest.invariant.3 ∙ append_assoc _ own _,
      columns_more _ _ done own _ _ c.loop-rest.invariant.4 c.new.ensures,
    )

pub returns : goal.returns
returns c =
    let done = c.loop-rest.invariant.0 in
    let all : c.args.fields.now ≡ done = left_over done _ _ c.loop-rest.invariant.2 c.in_default.len_below in
    (c.loop-rest.invariant.1, c.loop-rest.invariant.3, rw all c.loop-rest.invariant.4)
