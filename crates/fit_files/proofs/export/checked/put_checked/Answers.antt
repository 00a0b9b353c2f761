use Rattle.std.proofs.Common.{append-nil}
use Rattle.fit_text.proofs.PenLemmas.{puts_then, puts_stop, puts_same}
use Rattle.fit_files.proofs.export.checked.put_checked.Goals as goal

pub returns-in_err-put-clause-puts : goal.returns-in_err-put-clause-puts
returns-in_err-put-clause-puts g c = puts_stop c.from_residual.ensures.0 c.in_err-put.ensures _

pub returns-in_err-put_text-clause-puts : goal.returns-in_err-put_text-clause-puts
returns-in_err-put_text-clause-puts g c =
    puts_then c.in_ok-put.ensures (puts_stop c.from_residual-in_err-put_text.ensures.0 c.in_err-put_text.ensures _)

pub returns-in_err-put_found-clause-puts : goal.returns-in_err-put_found-clause-puts
returns-in_err-put_found-clause-puts g c =
    puts_then c.in_ok-put.ensures
    (puts_then c.in_ok-put_text.ensures (puts_stop c.from_residual-in_err-put_found.ensures.0 c.in_err-put_found.ensures _))

pub returns-in_err-put-2-clause-puts : goal.returns-in_err-put-2-clause-puts
returns-in_err-put-2-clause-puts g c =
    puts_then c.in_ok-put.ensures
    (puts_then c.in_ok-put_text.ensures (puts_then c.in_ok-put_found.ensures (puts_stop c.from_residual-in_err-put-2.ensures.0 c.in_err-put-2.ensures _)))

pub returns-clause-puts : goal.returns-clause-puts
returns-clause-puts g c =
    puts_then c.in_ok-put.ensures
    (puts_then c.in_ok-put_text.ensures
    (puts_then c.in_ok-put_found.ensures (puts_same (puts_then c.in_ok-put-2.ensures c.flush.ensures.puts) (append-nil _))))
