use Rattle.std.proofs.Common.{ap}
use Rattle.fit_text.proofs.PenLemmas.{puts_then, puts_stop, puts_same}
use Rattle.fit_text.proofs.form.developer.put_next.Goals as goal

pub returns-then-is_first : goal.returns-then-is_first
returns-then-is_first g c = rw c.if-is_first.true c.put_developer_field.ensures

pub returns-in_err-put : goal.returns-in_err-put
returns-in_err-put g c =
    rw c.if-is_first.false (puts_stop c.from_residual.ensures.0 (puts_same c.in_err-put.ensures (ap (λ notation. notation.between) c.notation.ensures)) _)

pub returns : goal.returns
returns g c =
    rw c.if-is_first.false
    (puts_then (puts_same c.in_ok-put.ensures (ap (λ notation. notation.between) c.notation.ensures)) c.put_developer_field-2.ensures)
