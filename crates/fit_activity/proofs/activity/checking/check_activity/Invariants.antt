use Rattle.std.proofs.Common.{◌≡◌, ◌++◌, List}
use Rattle.fit_grammar.specs.Format.Message.{Message}
use Rattle.fit_activity.specs.Private.Seen.{seen_in_messages}
use Rattle.fit_activity.proofs.activity.checking.check_activity.Given as goal

abbrev pub invariant-loop-message : goal.invariant-loop-message
invariant-loop-message l =
    (done : List Message) × (l.initial.message-iterator ≡ done ++ l.message-iterator) × (l.seen ≡ seen_in_messages done)
