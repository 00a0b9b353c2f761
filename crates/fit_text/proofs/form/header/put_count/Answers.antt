use Rattle.fit_text.proofs.PenLemmas.{puts_then, puts_stop}
use Rattle.fit_text.proofs.form.header.put_count.Goals as goal

pub returns-in_err-put_labelled : goal.returns-in_err-put_labelled
returns-in_err-put_labelled g c = puts_stop c.from_residual.ensures.0 c.in_err-put_labelled.ensures _

pub returns : goal.returns
returns g c = puts_then c.in_ok-put_labelled.ensures c.put.ensures
