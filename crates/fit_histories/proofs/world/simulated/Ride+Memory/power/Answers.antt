use Rattle.std.proofs.Common.{refl}
use Rattle.fit_recorder.specs.Files.NeverFull.{NeverFills}
use Rattle.fit_histories.specs.Histories.Table.{ended}
use Rattle.fit_histories.specs.Rides.Standing.{Fits}
use Rattle.fit_histories.proofs.Simulation.Memory.{cut_rests}
use Rattle.fit_histories.specs.Rides.Begun.{HasForm}
use Rattle.fit_histories.proofs.world.simulated.Ride+Memory.power.Goals as goal

pub returns-clause-step : goal.returns-clause-step
returns-clause-step c before stands = record {
  after = ended before;
  step = (refl, refl);
  stands = cut_rests (Fits (ended before)) c.args.choices.now _ _ c.cycle-taken.ensures.now c.cycle-taken.ensures.left
      (c.into_disk-disk.ensures.rests refl before stands);
}

pub returns-clause-never_full : goal.returns-clause-never_full
returns-clause-never_full c honest before stands never = record {
  not_full = λ is. absurd cc;
  never_full = cut_rests NeverFills c.args.choices.now _ _ c.cycle-taken.ensures.now c.cycle-taken.ensures.left (c.into_disk-disk.ensures.never_fills refl before stands never);
}

pub returns-clause-form : goal.returns-clause-form
returns-clause-form c checked form =
    cut_rests (HasForm checked) c.args.choices.now _ _ c.cycle-taken.ensures.now c.cycle-taken.ensures.left (rw c.into_disk-disk.ensures.disk form)
