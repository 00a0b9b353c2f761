use Rattle.std.proofs.Common.{◌++◌, ◌∷◌, ap}
use Rattle.fit_base.specs.declared.order.Arch.{Arch}
use Rattle.fit_grammar.specs.Calls.PlainForm.{time_front}
use Rattle.fit_grammar.proofs.Encoder.Checked.{then_checked, stops_checked, checked_same}
use Rattle.fit_grammar.proofs.plain.writing.put_data.Goals as goal

pub returns-in_err-put_checked : goal.returns-in_err-put_checked
returns-in_err-put_checked g c = stops_checked c.from_residual.ensures.0 c.in_err-put_checked.ensures _ _

pub returns-in_err-put_time : goal.returns-in_err-put_time
returns-in_err-put_time g c =
    let m = c.args.message.now in
    checked_same
    (then_checked c.in_ok-put_checked.ensures
    (stops_checked c.from_residual-in_err-put_time.ensures.0 c.in_err-put_time.ensures _ m.content.now))
    (ap (λ (a : Arch). m.local ∷ (time_front a c.args.time ++ m.content.now)) c.arch.ensures)

pub returns : goal.returns
returns g c =
    let m = c.args.message.now in
    checked_same (then_checked c.in_ok-put_checked.ensures (then_checked c.in_ok-put_time.ensures c.put_checked-2.ensures))
    (ap (λ (a : Arch). m.local ∷ (time_front a c.args.time ++ m.content.now)) c.arch.ensures)
