use Rattle.std.proofs.Common.{◌≡◌, ◌≤◌, length, drop, sum_by}
use Rattle.fit_text.specs.Plan.{columns_text, AreNamed}
use Rattle.fit_text.proofs.PenLemmas.{Leaves}
use Rattle.fit_text.proofs.form.message.put_columns.Given as goal

abbrev pub invariant-loop-left : goal.invariant-loop-left
invariant-loop-left g l =
    let form = g.F.Form.form l.initial.form in
    let text = form.field l.plan.utc l.plan.global in record {
      named : AreNamed l.plan.utc l.plan.global l.left;
      within : sum_by (λ column. column.size) l.left ≤ length l.rest;
      after : drop (sum_by (λ column. column.size) l.left) l.rest ≡ drop (sum_by (λ column. column.size) l.initial.left) l.initial.rest;
      same : g.F.Form.form l.form ≡ g.F.Form.form l.initial.form;
      put : Leaves l.initial.pen l.pen (columns_text form.notation.between l.initial.first text l.plan.arch l.initial.left l.initial.rest)
          (columns_text form.notation.between l.first text l.plan.arch l.left l.rest);
    }

abbrev pub decreases-loop-left : goal.decreases-loop-left
decreases-loop-left g l = length l.left
