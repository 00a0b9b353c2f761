use Rattle.std.proofs.Common.{◌≡◌}
use Rattle.fit_shifting.specs.Start.{first_of_record}
use Rattle.fit_shifting.proofs.start.first_of_record.Given as goal

abbrev pub invariant-loop-message : goal.invariant-loop-message
invariant-loop-message l =
    (goal.iterator-loop-message).can_next l.message-iterator ×
    (goal.iterator-loop-message).is_finite l.message-iterator ×
    (first_of_record l.message-iterator ≡ first_of_record l.initial.message-iterator)
