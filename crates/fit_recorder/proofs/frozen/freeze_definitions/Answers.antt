use Rattle.std.proofs.Common.{◌+◌, take, ap, ◌∙◌, rules, arith}
use Rattle.std.proofs.lemmas.List.{map-set}
use Rattle.std.proofs.lemmas.List.{length-map}
use Rattle.fit_recorder.specs.Calls.Frozen.{definition_bytes_in, definitions_in}
use Rattle.fit_grammar.proofs.Filled.{next_filled, all_filled}
use Rattle.fit_recorder.proofs.frozen.freeze_definitions.Goals as goal

pub loop-k-preserved : goal.loop-k-preserved
loop-k-preserved c =
    let k = c.loop-k.k in
    let numbers = c.loop-k.numbers in
    let slots = c.args.slots.now in
    let long = c.loop-k.invariant.0 in (
      search rules,
      ap (take (k + 1)) (map-set definition_bytes_in numbers k _)
          ∙ next_filled (definitions_in numbers) slots k _ _ c.loop-k.invariant.1
          (omega (arith, long, length-map numbers definition_bytes_in, c.loop-k-test.true)) (omega (arith, c.type_inv.slots, c.loop-k-test.true))
          c.freeze_definition.ensures,
    )

pub returns : goal.returns
returns c =
    all_filled (definitions_in c.loop-k.numbers) c.args.slots.now c.loop-k.k c.loop-k.invariant.1
    (omega (arith, c.loop-k.invariant.0, length-map c.loop-k.numbers definition_bytes_in, c.loop-k-test.false))
    (omega (arith, c.type_inv.slots, c.loop-k-test.false))
