use Rattle.std.proofs.Common.{◌≡◌}
use Rattle.std.specs.List.{list_all}
use Rattle.fit_shifting.specs.Moved.{can_move_field}
use Rattle.fit_shifting.proofs.checking.can_move.Given as goal

abbrev pub invariant-loop-field : goal.invariant-loop-field
invariant-loop-field l =
    (goal.iterator-loop-field).can_next l.field-iterator ×
    (goal.iterator-loop-field).is_finite l.field-iterator ×
    (list_all (can_move_field l.shift l.global) l.field-iterator ≡ list_all (can_move_field l.shift l.global) l.initial.field-iterator)
