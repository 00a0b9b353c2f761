use Rattle.fit_text.specs.Notation.{words_of}
use Rattle.fit_text.proofs.PenLemmas.{puts_then, puts_stop, puts_same}
use Rattle.fit_text.proofs.ValueLemmas.{marked_parts}
use Rattle.fit_text.proofs.value.date.put_marked_date.Goals as goal

pub returns-in_err-put : goal.returns-in_err-put
returns-in_err-put g c =
    puts_same (puts_stop c.from_residual.ensures.0 c.in_err-put.ensures _) (marked_parts (words_of c.args.notation.now).mark _)

pub returns-in_err-put_date : goal.returns-in_err-put_date
returns-in_err-put_date g c =
    puts_same (puts_then c.in_ok-put.ensures (puts_stop c.from_residual-in_err-put_date.ensures.0 c.in_err-put_date.ensures _))
    (marked_parts (words_of c.args.notation.now).mark _)

pub returns : goal.returns
returns g c =
    puts_same (puts_then c.in_ok-put.ensures (puts_then c.in_ok-put_date.ensures c.put-2.ensures)) (marked_parts (words_of c.args.notation.now).mark _)
