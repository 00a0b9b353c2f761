use Rattle.std.proofs.Common.{◌≡◌, None, Some, sym, ◌∙◌, subst, arith}
use Rattle.fit_finishing.specs.Heard.{settled_with}
use Rattle.fit_finishing.specs.Private.Ride.{IsRide}
use Rattle.fit_finishing.proofs.ride.Ride.settle.Goals as goal

pub add-requires : goal.add-requires
add-requires c =
    let h = c.requires.0 in
    let is = c.requires.1 in
    let room = c.requires.2 in (
      record h { lap = None },
      record { totals = is.totals; effort = is.effort; lap = c.take.ensures.after; taken = is.taken; left_out = is.left_out; sampled = is.sampled },
      omega (arith, room),
    )

pub returns-in-Some : goal.returns-in-Some
returns-in-Some c = λ h is.
    let waits : Some c.in-Some.time ≡ h.lap = sym c.in-Some.is ∙ c.take.ensures.value ∙ is.lap in
    subst (λ lap. IsRide c.add.new.self (settled_with lap h)) waits
    (c.add.ensures (record h { lap = None })
    (record { totals = is.totals; effort = is.effort; lap = c.take.ensures.after; taken = is.taken; left_out = is.left_out; sampled = is.sampled }))
