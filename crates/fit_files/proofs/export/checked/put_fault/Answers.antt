use Rattle.fit_text.proofs.PenLemmas.{puts_then, puts_stop}
use Rattle.fit_files.proofs.export.checked.put_fault.Goals as goal

pub returns-in_err-put : goal.returns-in_err-put
returns-in_err-put g c =
    puts_stop c.from_residual.ensures.0 c.in_err-put.ensures _

pub returns : goal.returns
returns g c =
    puts_then c.in_ok-put.ensures (c.put_text.ensures)
