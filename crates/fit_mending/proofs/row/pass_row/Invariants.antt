use Rattle.std.proofs.Common.{◌≡◌, List, length}
use Rattle.fit_grammar.specs.Format.Item.{Item}
use Rattle.fit_grammar.specs.Format.Records.{RecordsAfter, in_force}
use Rattle.fit_grammar.specs.Calls.Table.{definition_in}
use Rattle.fit_mending.specs.Private.Passed.{HasLeft}
use Rattle.fit_mending.proofs.row.pass_row.Given as goal

abbrev pub invariant-loop-item : goal.invariant-loop-item
invariant-loop-item l = (before items : List Item) → definition_in l.initial.latest ≡ in_force before → RecordsAfter before l.row items
    → HasLeft before items l.rest (definition_in l.latest)

abbrev pub decreases-loop-item : goal.decreases-loop-item
decreases-loop-item l = length l.rest
