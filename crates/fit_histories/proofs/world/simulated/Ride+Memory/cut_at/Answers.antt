use Rattle.std.proofs.Common.{true, subst}
use Rattle.fit_disk.specs.Memory.{memory_story}
use Rattle.fit_histories.specs.Rides.Ride.{CanGoOn}
use Rattle.fit_histories.specs.Rides.NeverFull.{NeverFull}
use Rattle.fit_histories.specs.Rides.Standing.{StandsIn}
use Rattle.fit_histories.proofs.Simulation.Memory.{same_stands, same_never_full}
use Rattle.fit_histories.proofs.world.simulated.Ride+Memory.cut_at.Goals as goal

pub returns-in-Riding-clause-goes_on : goal.returns-in-Riding-clause-goes_on
returns-in-Riding-clause-goes_on c goes = c.cut_at-in-Riding.ensures.same.goes_on (subst (λ ride. CanGoOn true memory_story ride) c.in-Riding.is goes)

pub returns-in-Riding-clause-stands : goal.returns-in-Riding-clause-stands
returns-in-Riding-clause-stands c history stands =
    same_stands _ _ c.cut_at-in-Riding.ensures.same history (subst (λ ride. StandsIn true memory_story ride history) c.in-Riding.is stands)

pub returns-in-Riding-clause-never_full : goal.returns-in-Riding-clause-never_full
returns-in-Riding-clause-never_full c never = same_never_full _ _ c.cut_at-in-Riding.ensures.same (subst (λ ride. NeverFull memory_story ride) c.in-Riding.is never)
