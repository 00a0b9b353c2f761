use Rattle.fit_text.proofs.PenLemmas.{puts_then, puts_stop}
use Rattle.fit_files.proofs.export.checked.put_member.Goals as goal

pub returns-in_err-put : goal.returns-in_err-put
returns-in_err-put g c =
    puts_stop c.from_residual.ensures.0 c.in_err-put.ensures _

pub returns-in_err-put-2 : goal.returns-in_err-put-2
returns-in_err-put-2 g c =
    puts_then c.in_ok-put.ensures (puts_stop c.from_residual-in_err-put-2.ensures.0 c.in_err-put-2.ensures _)

pub returns-in_err-put-3 : goal.returns-in_err-put-3
returns-in_err-put-3 g c =
    puts_then c.in_ok-put.ensures (puts_then c.in_ok-put-2.ensures (puts_stop c.from_residual-in_err-put-3.ensures.0 c.in_err-put-3.ensures _))

pub returns : goal.returns
returns g c =
    puts_then c.in_ok-put.ensures (puts_then c.in_ok-put-2.ensures (puts_then c.in_ok-put-3.ensures (c.put_number.ensures)))
