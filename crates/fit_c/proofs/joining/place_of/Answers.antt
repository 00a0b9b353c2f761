use Rattle.std.proofs.Common.{ap, length, ◌∙◌, arith}
use Rattle.std.proofs.lemmas.List.{length-drop}
use Rattle.fit_c.proofs.Chained.{counted_none, counted_on, counted_all}
use Rattle.fit_c.proofs.joining.place_of.Goals as goal

pub loop-left-init : goal.loop-left-init
loop-left-init c = record { within = omega arith; counts = counted_none c.args.bytes.now c.args.number }

pub loop-left-preserved : goal.loop-left-preserved
loop-left-preserved c =
    let here = c.loop-left.invariant in
    record {
      within = omega (arith, here.within, ap length c.split_at.ensures.back ∙ length-drop c.first_file.result c.loop-left.rest.now);
      counts = counted_on c.args.bytes.now c.loop-left.rest.now c.split_at.result.1.now c.args.number c.loop-left.left c.first_file.result here.counts
          (omega (arith, c.loop-left-test.true)) c.split_at.ensures.back c.first_file.ensures.whole;
    }

pub returns : goal.returns
returns c =
    counted_all c.args.bytes.now c.loop-left.rest.now c.args.number c.loop-left.left _ c.loop-left.invariant.counts
    (omega (arith, c.loop-left-test.false)) (omega arith)
