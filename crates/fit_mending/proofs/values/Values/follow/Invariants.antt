use Rattle.std.proofs.Common.{◌≡◌}
use Rattle.fit_mending.specs.declared.values.Change.TheVariants.{Unknown}
use Rattle.fit_mending.specs.Moves.{changed_from, values_after}
use Rattle.fit_mending.proofs.values.Values.follow.Given as goal

abbrev pub invariant-loop-field : goal.invariant-loop-field
invariant-loop-field l =
    (changed_from l.change l.self l.time l.field-iterator ≡ changed_from Unknown l.initial.self l.time l.initial.field-iterator)
    × (values_after l.self l.time l.field-iterator ≡ values_after l.initial.self l.time l.initial.field-iterator)
