use Rattle.std.proofs.Common.{◌≡◌, ◌==◌, true, false, rules}
use Rattle.fit_text.proofs.PenLemmas.{puts_then, puts_stop}
use Rattle.fit_text.proofs.value.number.put_next.Goals as goal

pub returns-then-i-eq0 : goal.returns-then-i-eq0
returns-then-i-eq0 g c = let first : (c.args.i == 0) ≡ true = search rules in rw first c.put_number.ensures

pub returns-in_err-put : goal.returns-in_err-put
returns-in_err-put g c =
    let later : (c.args.i == 0) ≡ false = search rules in
    rw later (puts_stop c.from_residual.ensures.0 c.in_err-put.ensures _)

pub returns : goal.returns
returns g c =
    let later : (c.args.i == 0) ≡ false = search rules in
    rw later (puts_then c.in_ok-put.ensures c.put_number-2.ensures)
