use Rattle.std.proofs.Common.{◌≡◌, ◌++◌, List}
use Rattle.fit_grammar.specs.Format.Message.{Message}
use Rattle.fit_finishing.specs.Heard.{heard_as}
use Rattle.fit_finishing.specs.Private.Ride.{IsHearing}
use Rattle.fit_finishing.proofs.hearing.hear.Given as goal

abbrev pub invariant-loop-message : goal.invariant-loop-message
invariant-loop-message l =
    (done : List Message) × (l.initial.message-iterator ≡ done ++ l.message-iterator) × IsHearing l.hearing (heard_as l.sport done)
