use Rattle.std.proofs.Common.{refl, arith}
use Rattle.std.proofs.lemmas.List.{nil_from_length}
use Rattle.fit_grammar.specs.Calls.Table.{definition_in}
use Rattle.fit_mending.proofs.Defined.{added_more, all_added, none_added}
use Rattle.fit_mending.proofs.known.definitions_of.Goals as goal

pub loop-rest-init : goal.loop-rest-init
loop-rest-init c = none_added (definition_in c.args.latest.now) _ c.new.ensures.items refl

pub loop-rest-preserved : goal.loop-rest-preserved
loop-rest-preserved c =
    added_more (definition_in c.args.latest.now) c.loop-rest.rest.now _ c.loop-rest.known c.add_local.new.known c.in-len1-up.len_at_least
    c.loop-rest.invariant c.in_ok-add_local.ensures.added

pub returns : goal.returns
returns c = record {
  known = λ items same.
      all_added (definition_in c.args.latest.now) items c.loop-rest.rest.now c.loop-rest.known same c.loop-rest.invariant
      (nil_from_length c.loop-rest.rest.now (omega (arith, c.in_default.len_below)));
  short = omega (arith, c.loop-rest.invariant.short);
}
