use Rattle.std.proofs.Common.{ap}
use Rattle.fit_text.specs.Values.{bytes_as}
use Rattle.fit_text.proofs.PenLemmas.{puts_then, puts_stop, puts_same}
use Rattle.fit_text.proofs.json.put_developer_bytes.Goals as goal

pub returns-in_err-put_developer_key : goal.returns-in_err-put_developer_key
returns-in_err-put_developer_key g c arch = puts_stop c.from_residual.ensures.0 c.in_err-put_developer_key.ensures _

pub returns-in_err-put : goal.returns-in_err-put
returns-in_err-put g c arch =
    puts_then c.in_ok-put_developer_key.ensures (puts_stop c.from_residual-in_err-put.ensures.0 c.in_err-put.ensures _)

pub returns-in_err-put_bytes : goal.returns-in_err-put_bytes
returns-in_err-put_bytes g c arch =
    puts_then c.in_ok-put_developer_key.ensures (puts_then c.in_ok-put.ensures (puts_stop c.from_residual-in_err-put_bytes.ensures.0 (puts_same c.in_err-put_bytes.ensures (ap (λ notation. bytes_as notation c.args.bytes.now) c.json_notation.ensures.words)) _))

pub returns : goal.returns
returns g c arch =
    puts_then c.in_ok-put_developer_key.ensures (puts_then c.in_ok-put.ensures (puts_then (puts_same c.in_ok-put_bytes.ensures (ap (λ notation. bytes_as notation c.args.bytes.now) c.json_notation.ensures.words)) c.put-2.ensures))
