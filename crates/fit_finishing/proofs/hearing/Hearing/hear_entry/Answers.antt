use Rattle.std.proofs.Common.{sym, subst, arith}
use Rattle.fit_finishing.specs.Private.Ride.{IsRide, IsHearing}
use Rattle.fit_finishing.proofs.Room.{begun-followed}
use Rattle.fit_finishing.proofs.hearing.Hearing.hear_entry.Goals as goal

pub returns-in-Riding : goal.returns-in-Riding
returns-in-Riding c = λ h is.
    let ride : IsRide c.in-Riding.ride h = subst (λ x. IsHearing x h) c.in-Riding.is is in
    let taken = ride.taken in
    subst (IsRide c.follow.new.self) (sym (begun-followed h.list c.args.sport c.args.entry.now h (omega (arith, taken)))) (c.follow.ensures h ride)
