use Rattle.std.proofs.Common.{◌≡◌}
use Rattle.fit_finishing.specs.Sports.{first_sport}
use Rattle.fit_finishing.proofs.sport.first_sport.Given as goal

abbrev pub invariant-loop-message : goal.invariant-loop-message
invariant-loop-message l = first_sport l.initial.message-iterator ≡ first_sport l.message-iterator
