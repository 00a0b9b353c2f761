use Rattle.std.proofs.Common.{◌+◌, ◌-◌, ◌%◌, arith}
use Rattle.std.proofs.lemmas.List.{length-set}
use Rattle.fit_table.proofs.DigitLemmas.{next_digit}
use Rattle.fit_table.proofs.number.place_digits.Goals as goal

pub loop-at-preserved : goal.loop-at-preserved
loop-at-preserved c =
    let l = c.loop-at.invariant in record {
      bound = omega (arith, l.bound);
      room = omega (arith, l.room, length-set c.loop-at.bytes (c.loop-at.at - 1) (48 + c.loop-at.n % 10));
      placed = next_digit c.loop-at.bytes c.loop-at.at c.args.count c.loop-at.n _ c.loop-at-test.true l.bound l.room l.placed;
    }
