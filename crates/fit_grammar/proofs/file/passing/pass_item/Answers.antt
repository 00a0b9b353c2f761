use Rattle.std.proofs.Common.{rules, ◌-◌, length, take, drop, refl, sym, ap, arith}
use Rattle.std.proofs.lemmas.List.{length-take-le}
use Rattle.std.proofs.lemmas.Grind.{common_steps}
use Rattle.fit_grammar.specs.Format.Item.{Defines, Data}
use Rattle.fit_grammar.specs.Calls.Step.{ItemAtFront}
use Rattle.fit_grammar.specs.Calls.Table.{definition_in}
use Rattle.fit_grammar.proofs.KeptRow.Left.{latest_after}
use Rattle.fit_grammar.proofs.OneItem.Least.{definition_whole}
use Rattle.fit_grammar.proofs.file.passing.pass_item.Goals as goal

pub returns-in-Definition-clause-passed : goal.returns-in-Definition-clause-passed
returns-in-Definition-clause-passed c =
    let f = definition_in c.args.latest.now in
    let d = c.new-definition.result in
    let whole = c.in_ok-used.ensures.whole f (sym c.least_after.ensures.answer) in
    record {
      item = Defines d;
      at_front = record {
        within = whole.there;
        spelled = definition_whole f c.args.window.now c.in_ok-used.used c.in-Definition.field-0 c.in-Definition.field-1 d whole.least
            whole.there c.in-Definition.ensures c.new-definition.ensures;
        defined = tt;
      };
      inside = whole.inside;
      written_is = c.size.ensures;
      taken = latest_after f (definition_in c.take.new.self) d c.take.ensures.taken c.take.ensures.others;
    }

data_there : (c : goal.In-Data) → ItemAtFront (definition_in c.args.latest.now) c.args.window.now
    (Data c.in-Data.field-0 c.in-Data.field-1 (take (c.in_ok-used.used - 1) (drop 1 c.args.window.now))) c.in_ok-used.used
data_there c = first_of (search rules, grind (arith, common_steps))

pub returns-in-Data-clause-passed : goal.returns-in-Data-clause-passed
returns-in-Data-clause-passed c =
    let whole = c.in_ok-used.ensures.whole (definition_in c.args.latest.now) (sym c.least_after.ensures.answer) in
    let there = data_there c in
    record {
      item = Data c.in-Data.field-0 c.in-Data.field-1 (take (c.in_ok-used.used - 1) (drop 1 c.args.window.now));
      at_front = there;
      inside = whole.inside;
      written_is = omega (
        arith,
        there.within,
        length-take-le c.in_ok-used.used c.args.window.now there.within,
        ap length there.spelled.laid_out,
      );
      taken = refl;
    }
