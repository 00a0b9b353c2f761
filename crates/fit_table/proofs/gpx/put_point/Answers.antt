use Rattle.std.proofs.Common.{sym, ◌∙◌}
use Rattle.fit_text.proofs.PenLemmas.{puts_then, puts_stop, puts_same}
use Rattle.fit_table.specs.Gpx.{has_position}
use Rattle.fit_table.proofs.GpxLemmas.{text_some}
use Rattle.fit_table.proofs.gpx.put_point.Goals as goal

pub returns-in_err-put : goal.returns-in_err-put
returns-in_err-put g c =
    puts_same
    (puts_stop c.from_residual.ensures.0 c.in_err-put.ensures _)
    (text_some (has_position c.args.values.now) _ (sym c.has_position.ensures ∙ c.if-not-has_position.false))

pub returns-in_err-put-2 : goal.returns-in_err-put-2
returns-in_err-put-2 g c =
    puts_same
    (puts_then c.in_ok-put.ensures (puts_stop c.from_residual-in_err-put-2.ensures.0 c.in_err-put-2.ensures _))
    (text_some (has_position c.args.values.now) _ (sym c.has_position.ensures ∙ c.if-not-has_position.false))

pub returns-in_err-put_between : goal.returns-in_err-put_between
returns-in_err-put_between g c =
    puts_same
    (puts_then c.in_ok-put.ensures (puts_then c.in_ok-put-2.ensures (puts_stop c.from_residual-in_err-put_between.ensures.0 (rw c.altitude.ensures.value at c.in_err-put_between.ensures) _)))
    (text_some (has_position c.args.values.now) _ (sym c.has_position.ensures ∙ c.if-not-has_position.false))

pub returns-in_err-put_between-2 : goal.returns-in_err-put_between-2
returns-in_err-put_between-2 g c =
    puts_same
    (puts_then c.in_ok-put.ensures (puts_then c.in_ok-put-2.ensures (puts_then (rw c.altitude.ensures.value at c.in_ok-put_between.ensures) (puts_stop c.from_residual-in_err-put_between-2.ensures.0 (rw c.date.ensures.value at c.in_err-put_between-2.ensures) _))))
    (text_some (has_position c.args.values.now) _ (sym c.has_position.ensures ∙ c.if-not-has_position.false))

pub returns-in_err-put_extensions : goal.returns-in_err-put_extensions
returns-in_err-put_extensions g c =
    puts_same
    (puts_then c.in_ok-put.ensures (puts_then c.in_ok-put-2.ensures (puts_then (rw c.altitude.ensures.value at c.in_ok-put_between.ensures) (puts_then (rw c.date.ensures.value at c.in_ok-put_between-2.ensures) (puts_stop c.from_residual-in_err-put_extensions.ensures.0 c.in_err-put_extensions.ensures _)))))
    (text_some (has_position c.args.values.now) _ (sym c.has_position.ensures ∙ c.if-not-has_position.false))

pub returns : goal.returns
returns g c =
    puts_same
    (puts_then c.in_ok-put.ensures (puts_then c.in_ok-put-2.ensures (puts_then (rw c.altitude.ensures.value at c.in_ok-put_between.ensures) (puts_then (rw c.date.ensures.value at c.in_ok-put_between-2.ensures) (puts_then c.in_ok-put_extensions.ensures c.put-3.ensures)))))
    (text_some (has_position c.args.values.now) _ (sym c.has_position.ensures ∙ c.if-not-has_position.false))
