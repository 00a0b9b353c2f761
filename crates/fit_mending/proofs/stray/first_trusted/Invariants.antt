use Rattle.std.proofs.Common.{ℕ, ◌<◌, ◌*◌, drop}
use Rattle.fit_grammar.specs.Calls.Table.{definition_in}
use Rattle.fit_mending.specs.Private.Counting.{TakesLooks}
use Rattle.fit_mending.specs.Steady.{IsTrusted}
use Rattle.fit_mending.proofs.stray.first_trusted.Given as goal

abbrev pub invariant-loop-place : goal.invariant-loop-place
invariant-loop-place l = ((earlier : ℕ) → earlier < l.place → IsTrusted (definition_in l.latest) l.progress (drop earlier l.bytes) → ⊥)
    × TakesLooks l.initial.looks l.looks (256 * l.place)
