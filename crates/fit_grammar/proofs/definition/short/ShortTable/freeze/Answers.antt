use Rattle.std.proofs.Common.{◌+◌, take, ap, ◌∙◌, rules, arith}
use Rattle.std.proofs.lemmas.List.{map-set, length-map}
use Rattle.fit_grammar.specs.Calls.FrozenTable.{slot_in, table_in, no_definition, IsPossible}
use Rattle.fit_grammar.proofs.Filled.{next_filled, all_filled, all_set}
use Rattle.fit_grammar.proofs.definition.short.ShortTable.freeze.Goals as goal

pub loop-k-preserved : goal.loop-k-preserved
loop-k-preserved c =
    let k = c.loop-k.k in
    let numbers = c.loop-k.numbers in
    let below = c.loop-k-test.true in
    let long = c.loop-k.invariant.0 in (
      search rules,
      ap (take (k + 1)) (map-set slot_in numbers k _)
          ∙ next_filled (table_in numbers) c.self.inside.slots k _ _ c.loop-k.invariant.1 (omega (arith, long, length-map numbers slot_in, below))
          (omega (arith, c.self.invariant, below)) c.freeze_slot.ensures.slot,
      all_set IsPossible numbers k _ no_definition c.loop-k.invariant.2 (omega (arith, long, below)) c.freeze_slot.ensures.possible,
    )

pub returns-clause-table : goal.returns-clause-table
returns-clause-table c =
    let numbers = c.loop-k.numbers in
    all_filled (table_in numbers) c.self.inside.slots c.loop-k.k c.loop-k.invariant.1
    (omega (arith, c.loop-k.invariant.0, length-map numbers slot_in, c.loop-k-test.false)) (omega (arith, c.self.invariant, c.loop-k-test.false))
    ∙ c.self.view_is
