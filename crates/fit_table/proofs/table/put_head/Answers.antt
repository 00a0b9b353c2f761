use Rattle.fit_text.proofs.PenLemmas.{puts_then, puts_stop}
use Rattle.fit_table.proofs.table.put_head.Goals as goal

pub returns-in_err-put : goal.returns-in_err-put
returns-in_err-put g c = puts_stop c.from_residual.ensures.0 c.in_err-put.ensures _

pub returns-in_err-put_names : goal.returns-in_err-put_names
returns-in_err-put_names g c = puts_then c.in_ok-put.ensures (puts_stop c.from_residual-in_err-put_names.ensures.0 c.in_err-put_names.ensures _)

pub returns-in_err-put_titles : goal.returns-in_err-put_titles
returns-in_err-put_titles g c =
    puts_then c.in_ok-put.ensures (puts_then c.in_ok-put_names.ensures (puts_stop c.from_residual-in_err-put_titles.ensures.0 c.in_err-put_titles.ensures _))

pub returns : goal.returns
returns g c = puts_then c.in_ok-put.ensures (puts_then c.in_ok-put_names.ensures (puts_then c.in_ok-put_titles.ensures c.put-2.ensures))
