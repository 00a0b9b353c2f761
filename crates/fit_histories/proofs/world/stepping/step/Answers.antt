use Rattle.std.proofs.Common.{refl, arith}
use Rattle.fit_disk.specs.Memory.{memory_story}
use Rattle.fit_histories.specs.Rides.Ride.{disk_in}
use Rattle.fit_histories.proofs.Simulation.Asking.{asks}
use Rattle.fit_histories.proofs.world.stepping.step.Goals as goal

pub returns-in_default : goal.returns-in_default
returns-in_default c =
    let asked = c.ask-ride.ensures in
    let rest = asks c.ask-ride.result.1 _ _ _ _ c.args.choices.now (memory_story (disk_in c.args.ride)) (memory_story (disk_in c.ask-ride.result.0)) asked.called.planned
    c.args.command.now asked.called.counted c.in_default.not-Fail c.in_default.not-Cut c.in_default.not-Power (asked.goes refl).left in
    record { goes_on = asked.goes_on; step = (asked.goes refl).step; form = asked.form; never_full = asked.never_full; moves = rest.0; taken = rest.1; within = omega arith; left = rest.2 }

pub returns-in-Power-clause-form : goal.returns-in-Power-clause-form
returns-in-Power-clause-form c honest before stands = rw c.in-Power.is (c.power-ride.ensures.form c.args.checked)
