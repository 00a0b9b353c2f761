use Rattle.std.proofs.Common.{◌≡◌, ◌++◌, List}
use Rattle.fit_grammar.specs.Format.Message.{Message}
use Rattle.fit_activity.specs.Messages.Replay.{HasHeard}
use Rattle.fit_activity_tests.proofs.activity.replays.replay.Given as goal

abbrev pub invariant-loop-message : goal.invariant-loop-message
invariant-loop-message l =
    (done : List Message) × (l.initial.message-iterator ≡ done ++ l.message-iterator) × HasHeard l.replay done
