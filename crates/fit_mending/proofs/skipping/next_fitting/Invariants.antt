use Rattle.std.proofs.Common.{◌-◌, ◌*◌, ◌≤◌, length, max, min}
use Rattle.fit_grammar.specs.Calls.Table.{definition_in}
use Rattle.fit_mending.specs.Private.Counting.{KeepsLooks}
use Rattle.fit_mending.specs.Private.Cut.{HasNoTrusted}
use Rattle.fit_mending.proofs.skipping.next_fitting.Given as goal

abbrev pub invariant-loop-count : goal.invariant-loop-count
invariant-loop-count l = HasNoTrusted (definition_in l.latest) l.progress l.bytes l.from l.count × KeepsLooks l.initial.looks l.looks (256 * (l.count - l.from))
    × (l.count ≤ max l.from (min l.end (length l.bytes)))
