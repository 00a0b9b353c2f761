use Rattle.fit_text.proofs.PenLemmas.{puts_then, puts_stop}
use Rattle.fit_table.proofs.table.put_name.Goals as goal

pub returns-in_err-put_name_by : goal.returns-in_err-put_name_by
returns-in_err-put_name_by g c =
    puts_stop c.from_residual.ensures.0 (rw c.row_by-row.ensures at c.in_err-put_name_by.ensures) _

pub returns : goal.returns
returns g c = rw (← c.suffix_in.ensures) (puts_then (rw c.row_by-row.ensures at c.in_ok-put_name_by.ensures) c.put.ensures)
