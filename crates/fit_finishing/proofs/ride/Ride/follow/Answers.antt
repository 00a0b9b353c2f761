use Rattle.std.proofs.Common.{Some, refl, sym, ◌∙◌, subst, arith}
use Rattle.fit_finishing.specs.declared.ride.Ride.{Ride}
use Rattle.fit_finishing.specs.Heard.{settled, followed_by}
use Rattle.fit_finishing.specs.Private.Ride.{IsRide}
use Rattle.fit_finishing.proofs.Room.{settled-counted}
use Rattle.fit_finishing.proofs.Taken.{idle-followed, other-followed}
use Rattle.fit_finishing.proofs.ride.Ride.follow.Goals as goal

pub returns-then-is_idle : goal.returns-then-is_idle
returns-then-is_idle c = λ h is.
    subst (IsRide _) (sym (idle-followed c.args.entry.now h (sym (c.is_idle.ensures h is) ∙ c.if-is_idle.true))) is

pub add-requires : goal.add-requires
add-requires c =
    let h = c.requires.0 in (
      settled h,
      c.settle.ensures h c.requires.1,
      omega (arith, settled-counted h.lap h, c.requires.2),
    )

pub returns-in-Lap : goal.returns-in-Lap
returns-in-Lap c = λ h is.
    let so_far = c.settle.ensures h is in
    let ride : Ride = record c.settle.new.self { lap = Some c.in-Lap.time } in
    subst (λ e. IsRide ride (followed_by e h)) (sym c.in-Lap.is)
    (record { totals = so_far.totals; effort = so_far.effort; lap = refl; taken = so_far.taken; left_out = so_far.left_out; sampled = so_far.sampled })

pub returns-in_default : goal.returns-in_default
returns-in_default c = λ h is.
    subst (IsRide _) (sym (other-followed c.args.entry.now h (sym (c.is_idle.ensures h is) ∙ c.if-is_idle.false) (λ time is. c.in_default.not-Lap time is)))
    (c.add.ensures (settled h) (c.settle.ensures h is))
