use Rattle.std.proofs.Common.{sym, ◌∙◌}
use Rattle.fit_text.proofs.PenLemmas.{puts_then, puts_stop, puts_same}
use Rattle.fit_table.specs.Gpx.{has_sensors}
use Rattle.fit_table.proofs.GpxLemmas.{text_some}
use Rattle.fit_table.proofs.gpx.put_sensors.Goals as goal

pub returns-in_err-put : goal.returns-in_err-put
returns-in_err-put g c =
    puts_same
    (puts_stop c.from_residual.ensures.0 c.in_err-put.ensures _)
    (text_some (has_sensors c.args.values.now) _ (sym c.has_sensors.ensures ∙ c.if-not-has_sensors.false))

pub returns-in_err-put-2 : goal.returns-in_err-put-2
returns-in_err-put-2 g c =
    puts_same
    (puts_then c.in_ok-put.ensures (puts_stop c.from_residual-in_err-put-2.ensures.0 c.in_err-put-2.ensures _))
    (text_some (has_sensors c.args.values.now) _ (sym c.has_sensors.ensures ∙ c.if-not-has_sensors.false))

pub returns-in_err-put-3 : goal.returns-in_err-put-3
returns-in_err-put-3 g c =
    puts_same
    (puts_then c.in_ok-put.ensures (puts_then c.in_ok-put-2.ensures (puts_stop c.from_residual-in_err-put-3.ensures.0 c.in_err-put-3.ensures _)))
    (text_some (has_sensors c.args.values.now) _ (sym c.has_sensors.ensures ∙ c.if-not-has_sensors.false))

pub returns-in_err-put-4 : goal.returns-in_err-put-4
returns-in_err-put-4 g c =
    puts_same
    (puts_then c.in_ok-put.ensures (puts_then c.in_ok-put-2.ensures (puts_then c.in_ok-put-3.ensures (puts_stop c.from_residual-in_err-put-4.ensures.0 c.in_err-put-4.ensures _))))
    (text_some (has_sensors c.args.values.now) _ (sym c.has_sensors.ensures ∙ c.if-not-has_sensors.false))

pub returns : goal.returns
returns g c =
    puts_same
    (puts_then c.in_ok-put.ensures (puts_then c.in_ok-put-2.ensures (puts_then c.in_ok-put-3.ensures (puts_then c.in_ok-put-4.ensures c.put-5.ensures))))
    (text_some (has_sensors c.args.values.now) _ (sym c.has_sensors.ensures ∙ c.if-not-has_sensors.false))
