use Rattle.std.proofs.Common.{◌≡◌}
use Rattle.std.specs.Prelude.{option_and_then, find, ◌==◌}
use Rattle.fit_grammar.specs.Format.OneValue.{value_in}
use Rattle.fit_grammar.proofs.message.Message.value_of.Given as goal

abbrev pub invariant-loop-field : goal.invariant-loop-field
invariant-loop-field l =
    option_and_then (value_in l.base) (find (λ field. field.number == l.number) l.initial.field-iterator)
    ≡ option_and_then (value_in l.base) (find (λ field. field.number == l.number) l.field-iterator)
