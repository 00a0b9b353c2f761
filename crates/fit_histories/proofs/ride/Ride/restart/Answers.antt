use Rattle.fit_disk.proofs.Moments.{begins}
use Rattle.fit_histories.specs.Histories.Table.{ended}
use Rattle.fit_histories.specs.Rides.Standing.{Fits}
use Rattle.fit_histories.proofs.Histories.Moments.{unended}
use Rattle.fit_histories.proofs.ride.Ride.restart.Goals as goal

pub returns-clause-never_full : goal.returns-clause-never_full
returns-clause-never_full g c honest before stands never = record {
  not_full = λ is. absurd cc;
  never_full = c.into_disk.ensures.never_fills honest before stands never;
}

pub returns-clause-form : goal.returns-clause-form
returns-clause-form g c checked honest before stands = rw c.into_disk.ensures.disk (λ form. form)

pub returns-clause-any_moment : goal.returns-clause-any_moment
returns-clause-any_moment g c honest before stands =
    rw (← c.into_disk.ensures.disk) (unended before _ _ (begins (Fits (ended before)) (g.D.Disk.story c.into_disk.result) (c.into_disk.ensures.rests honest before stands)))
