use Rattle.std.proofs.Common.{None, sym, ◌∙◌, refl, rules, arith}
use Rattle.std.proofs.lemmas.List.{get_or-map, length-map}
use Rattle.fit_grammar.specs.Calls.FrozenTable.{slot_in, table_in, no_definition}
use Rattle.fit_grammar.proofs.Filled.{next_filled}
use Rattle.fit_grammar.proofs.definition.short.ShortTable.thaw.Goals as goal

pub loop-k-preserved : goal.loop-k-preserved
loop-k-preserved c =
    let numbers = c.args.numbers.now in
    let below = c.loop-k-test.true in (
      search rules,
      next_filled c.loop-k.self-inside.slots (table_in numbers) c.loop-k.k _ _ c.loop-k.invariant.1
          (omega (arith, c.loop-k.invariant.0, below)) (omega (arith, length-map numbers slot_in, c.told-numbers, below))
          (c.if-not-thaw_slot.ensures.slot refl ∙ sym (get_or-map slot_in numbers c.loop-k.k no_definition None (omega (arith, c.told-numbers, below)))),
    )
