use Rattle.std.proofs.Common.{ℕ, ◌-◌, ◌<◌, length, drop}
use Rattle.fit_grammar.specs.Calls.Table.{definition_in}
use Rattle.fit_mending.specs.Others.{BeginsRide}
use Rattle.fit_mending.proofs.rides.first_ride.Given as goal

abbrev pub invariant-loop-at : goal.invariant-loop-at
invariant-loop-at l = (earlier other : ℕ) → earlier < l.at → BeginsRide (definition_in l.latest) (drop earlier l.bytes) other → ⊥

abbrev pub decreases-loop-at : goal.decreases-loop-at
decreases-loop-at l = length l.bytes - l.at
