use Rattle.std.proofs.Common.{◌≡◌, ◌≤◌, ◌+◌, ◌-◌, ◌*◌, List, ◌++◌, drop, length}
use Rattle.fit_grammar.specs.Format.Item.{Item}
use Rattle.fit_grammar.specs.Format.Records.{in_force}
use Rattle.fit_grammar.specs.Calls.Table.{definition_in}
use Rattle.fit_mending.specs.declared.progress.Progress.{Progress}
use Rattle.fit_mending.specs.Private.Counting.{PassesLooks}
use Rattle.fit_mending.specs.Private.Cut.{PassesRow}
use Rattle.fit_mending.specs.Private.Passed.{HasPassed}
use Rattle.fit_mending.specs.Reading.{ReadsRow, after_row}
use Rattle.fit_mending.specs.Private.Looking.{PassesTo}
use Rattle.fit_mending.specs.Steady.{IsSteady, Sized, row_size}
use Rattle.fit_mending.proofs.skipping.pass_items.Given as goal

abbrev pub invariant-loop-item : goal.invariant-loop-item
invariant-loop-item l = (l.front ≤ length l.bytes)
    × ((before : List Item) → definition_in l.initial.latest ≡ in_force before
    → HasPassed before l.bytes l.front (definition_in l.latest))
    × ((row last : List Sized) → 32 ≤ length last → IsSteady (definition_in l.initial.latest) l.initial.progress 0 l.bytes (row ++ last)
    → PassesTo (definition_in l.latest) l.progress l.bytes l.front (row_size row) last)
    × ((row : List Sized) (after : Progress) → ReadsRow (definition_in l.latest) l.progress (drop l.front l.bytes) row after
    → PassesRow (definition_in l.initial.latest) l.initial.progress l.bytes (l.front + row_size row) (after_row (definition_in l.latest) row) after)
    × PassesLooks l.initial.looks l.looks l.front (19 * l.front)

abbrev pub decreases-loop-item : goal.decreases-loop-item
decreases-loop-item l = length l.bytes - l.front
