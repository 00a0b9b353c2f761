use Rattle.std.proofs.Common.{w64, rules}
use Rattle.std.proofs.lemmas.Int.{to_z-of_z}
use Rattle.fit_text.proofs.PenLemmas.{puts_then, puts_stop, puts_same}
use Rattle.fit_table.proofs.GpxLemmas.{between_some}
use Rattle.fit_table.proofs.gpx.put_between.Goals as goal

pub returns-in_err-put : goal.returns-in_err-put
returns-in_err-put g c =
    puts_same (puts_stop c.from_residual.ensures.0 c.in_err-put.ensures _)
    (between_some c.args.before.now c.args.unit c.args.value c.args.after.now c.in-Some.value _ c.in-Some.is (to_z-of_z w64 c.in-Some.value (search rules)))

pub returns-in_err-put_value : goal.returns-in_err-put_value
returns-in_err-put_value g c =
    puts_same (puts_then c.in_ok-put.ensures (puts_stop c.from_residual-in_err-put_value.ensures.0 c.in_err-put_value.ensures _))
    (between_some c.args.before.now c.args.unit c.args.value c.args.after.now c.in-Some.value _ c.in-Some.is (to_z-of_z w64 c.in-Some.value (search rules)))

pub returns : goal.returns
returns g c =
    puts_same (puts_then c.in_ok-put.ensures (puts_then c.in_ok-put_value.ensures c.put-2.ensures))
    (between_some c.args.before.now c.args.unit c.args.value c.args.after.now c.in-Some.value _ c.in-Some.is (to_z-of_z w64 c.in-Some.value (search rules)))
