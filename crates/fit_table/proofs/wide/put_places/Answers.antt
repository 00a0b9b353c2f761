use Rattle.std.proofs.Common.{ap}
use Rattle.fit_text.proofs.PenLemmas.{puts_then, puts_stop, puts_same}
use Rattle.fit_table.specs.Number.{places_text}
use Rattle.fit_table.proofs.wide.put_places.Goals as goal

pub returns-in_err-put_number : goal.returns-in_err-put_number
returns-in_err-put_number g c =
    puts_same (puts_stop c.from_residual.ensures.0 c.in_err-put_number.ensures _) (ap (λ p. places_text p c.args.count c.args.n) c.from-power.ensures)

pub returns-in_err-put : goal.returns-in_err-put
returns-in_err-put g c =
    puts_same (puts_then c.in_ok-put_number.ensures (puts_stop c.from_residual-in_err-put.ensures.0 c.in_err-put.ensures _))
    (ap (λ p. places_text p c.args.count c.args.n) c.from-power.ensures)

pub returns : goal.returns
returns g c =
    puts_same (puts_then c.in_ok-put_number.ensures (puts_then c.in_ok-put.ensures c.put_digits.ensures))
    (ap (λ p. places_text p c.args.count c.args.n) c.from-power.ensures)
