use Rattle.std.proofs.Common.{◌≡◌, ◌++◌, List}
use Rattle.fit_grammar.specs.Format.Message.{Message}
use Rattle.fit_activity.specs.Files.Activity.{messages_counted}
use Rattle.fit_finishing.proofs.closing.count_of.Given as goal

abbrev pub invariant-loop-message : goal.invariant-loop-message
invariant-loop-message l =
    (done : List Message) × (l.initial.message-iterator ≡ done ++ l.message-iterator) × (l.count ≡ messages_counted l.global done)
