use Rattle.std.proofs.Common.{◌≡◌}
use Rattle.fit_grammar.specs.Format.Message.{time_stated}
use Rattle.fit_grammar.proofs.message.fields.Fields.stated_time.Given as goal

abbrev pub invariant-loop-field : goal.invariant-loop-field
invariant-loop-field l =
    (goal.iterator-loop-field).can_next l.field-iterator ×
    (goal.iterator-loop-field).is_finite l.field-iterator ×
    (time_stated l.field-iterator ≡ time_stated l.initial.field-iterator)
