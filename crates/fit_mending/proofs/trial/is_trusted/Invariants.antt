use Rattle.std.proofs.Common.{◌<◌, ◌↔◌}
use Rattle.fit_grammar.specs.Calls.Table.{definition_in}
use Rattle.fit_mending.specs.Private.Counting.{TakesLooks}
use Rattle.fit_mending.specs.Private.Looking.{StaysSteady}
use Rattle.fit_mending.specs.Steady.{IsTrusted}
use Rattle.fit_mending.proofs.trial.is_trusted.Given as goal

abbrev pub invariant-loop-count : goal.invariant-loop-count
invariant-loop-count l = (l.quiet < 32)
    × (IsTrusted (definition_in l.initial.own) l.initial.later l.initial.rest ↔ StaysSteady l.count (definition_in l.own) l.later l.quiet l.rest)
    × TakesLooks l.initial.looks l.looks l.count
