use Rattle.std.proofs.Common.{[], ◌∙◌, sym, rules, arith}
use Rattle.std.proofs.lemmas.List.{get_or-map}
use Rattle.std.proofs.lemmas.List.{length-map}
use Rattle.fit_recorder.specs.Calls.Frozen.{definition_bytes_in, definitions_in}
use Rattle.fit_grammar.proofs.Filled.{next_filled, all_filled}
use Rattle.fit_recorder.proofs.frozen.thaw_definitions.Goals as goal

pub loop-k-preserved : goal.loop-k-preserved
loop-k-preserved c =
    let numbers = c.args.numbers.now in
    let below = c.loop-k-test.true in (
      search rules,
      next_filled c.loop-k.slots (definitions_in numbers) c.loop-k.k _ _ c.loop-k.invariant.1 (omega (arith, c.loop-k.invariant.0, below))
          (omega (arith, length-map numbers definition_bytes_in, c.told-numbers, below))
          (c.thaw_definition.ensures ∙ sym (get_or-map definition_bytes_in numbers c.loop-k.k _ (record { items = [] }) (omega (arith, c.told-numbers, below)))),
    )

pub returns : goal.returns
returns c =
    let numbers = c.args.numbers.now in
    all_filled c.loop-k.slots (definitions_in numbers) c.loop-k.k c.loop-k.invariant.1 (omega (arith, c.loop-k.invariant.0, c.loop-k-test.false))
    (omega (arith, length-map numbers definition_bytes_in, c.told-numbers, c.loop-k-test.false))
