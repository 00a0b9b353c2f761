use Rattle.std.proofs.Common.{◌≤◌, length, sum_by, true}
use Rattle.fit_grammar.specs.Format.Message.{developer_of}
use Rattle.fit_text.specs.Plan.{joined}
use Rattle.fit_text.proofs.PenLemmas.{Leaves}
use Rattle.fit_text.proofs.form.developer.put_developer_fields.Given as goal

abbrev pub invariant-loop-left : goal.invariant-loop-left
invariant-loop-left g l =
    let form = g.F.Form.form l.form in
    let text = form.developer l.number in record {
      within : sum_by (λ field. field.size) l.left ≤ length l.rest;
      put : Leaves l.initial.pen l.pen (joined form.notation.between true text (developer_of l.arch l.initial.left l.initial.rest))
          (joined form.notation.between l.first text (developer_of l.arch l.left l.rest));
    }

abbrev pub decreases-loop-left : goal.decreases-loop-left
decreases-loop-left g l = length l.left
