use Rattle.std.proofs.Common.{◌∙◌, arith}
use Rattle.std.proofs.lemmas.List.{length-set}
use Rattle.fit_table.specs.declared.unit.Unit.TheVariants.{Whole}
use Rattle.fit_table.specs.Unit.{unit_in}
use Rattle.fit_table.proofs.UnitLemmas.{next_is}
use Rattle.fit_table.proofs.unit.units_of.Goals as goal

pub returns-then-number : goal.returns-then-number
returns-then-number c n at_most =
    let l = c.loop-number.invariant in
    next_is (unit_in c.args.layout.now) c.loop-number.units c.from.result c.loop-number.number c.unit_in.result Whole l.all c.from.ensures
    (omega (arith, l.long, c.loop-number.auto.number-fits)) c.unit_in.ensures n (omega (arith, at_most, c.if-number.true))

pub loop-number-preserved : goal.loop-number-preserved
loop-number-preserved c =
    let l = c.loop-number.invariant in record {
      long = length-set c.loop-number.units c.from.result c.unit_in.result ∙ l.long;
      all = next_is (unit_in c.args.layout.now) c.loop-number.units c.from.result c.loop-number.number c.unit_in.result Whole l.all c.from.ensures
          (omega (arith, l.long, c.loop-number.auto.number-fits)) c.unit_in.ensures;
    }
