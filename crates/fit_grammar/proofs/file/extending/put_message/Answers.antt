use Rattle.std.proofs.Common.{ℕ, ◌∷◌, ap}
use Rattle.fit_grammar.proofs.Encoder.Checked.{then_checked, stops_checked, checked_same}
use Rattle.fit_grammar.proofs.file.extending.put_message.Goals as goal

pub returns-in_err-put_checked : goal.returns-in_err-put_checked
returns-in_err-put_checked g c =
    let content = c.args.message.now.content.now in
    checked_same (stops_checked c.from_residual.ensures.0 c.in_err-put_checked.ensures _ content)
    (ap (λ (byte : ℕ). byte ∷ content) c.data_byte.ensures)

pub returns : goal.returns
returns g c =
    let content = c.args.message.now.content.now in
    checked_same (then_checked c.in_ok-put_checked.ensures c.put_checked-2.ensures)
    (ap (λ (byte : ℕ). byte ∷ content) c.data_byte.ensures)
