use Rattle.fit_grammar.proofs.Encoder.Checked.{then_checked, stops_checked}
use Rattle.fit_grammar.proofs.file.extending.put_beginning.Goals as goal

pub returns-in_err-put_header : goal.returns-in_err-put_header
returns-in_err-put_header g c = stops_checked c.from_residual.ensures.0 c.in_err-put_header.ensures _ c.args.before.now

pub returns : goal.returns
returns g c = then_checked c.in_ok-put_header.ensures c.put_checked.ensures
