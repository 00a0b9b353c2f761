use Rattle.std.proofs.Common.{◌≡◌, ℕ, ◌*◌, ◌≤◌}
use Rattle.fit_grammar.specs.Calls.Table.{definition_in}
use Rattle.fit_mending.specs.Private.Counting.{TakesLooks}
use Rattle.fit_mending.specs.Private.Looking.{IsAtFirst, IsEnough, LooksOn}
use Rattle.fit_mending.specs.Steady.{HasSound, HasSteady}
use Rattle.fit_mending.proofs.trial.follows.Given as goal

abbrev pub invariant-loop-count : goal.invariant-loop-count
invariant-loop-count l = (l.ahead.idle ≤ l.count) × (l.ahead.definitions ≤ l.count)
    × ((signs : ℕ) → IsEnough signs l.need → HasSteady (32 * signs) (definition_in l.initial.own) l.initial.later l.initial.rest
    → LooksOn signs (definition_in l.own) l.later l.rest l.count l.ahead)
    × (1 ≤ l.count → HasSound (definition_in l.initial.own) l.initial.later l.initial.rest)
    × (l.count ≡ 0 → IsAtFirst l.own l.initial.own l.later l.initial.later l.rest l.initial.rest l.ahead)
    × TakesLooks l.initial.looks l.looks (64 * l.count)
