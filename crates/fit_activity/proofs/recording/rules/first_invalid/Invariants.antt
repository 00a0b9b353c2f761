use Rattle.std.proofs.Common.{◌≡◌, length}
use Rattle.fit_activity.specs.Rides.Refusal.{first_invalid_in}
use Rattle.fit_activity.proofs.recording.rules.first_invalid.Given as goal

abbrev pub invariant-loop-rest : goal.invariant-loop-rest
invariant-loop-rest l = first_invalid_in l.initial.rest ≡ first_invalid_in l.rest

abbrev pub decreases-loop-rest : goal.decreases-loop-rest
decreases-loop-rest l = length l.rest
