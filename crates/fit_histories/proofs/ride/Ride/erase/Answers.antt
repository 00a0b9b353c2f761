use Rattle.std.proofs.Common.{◌∙◌, ap, refl, subst, sym}
use Rattle.fit_histories.proofs.Histories.NeverFull.{erasing_not_full, erased_fills}
use Rattle.fit_disk.specs.Story.{seen_of}
use Rattle.fit_disk.specs.declared.disk.Which.TheVariants.{Data}
use Rattle.fit_histories.proofs.Histories.Idle.{erase_goes, erase_moments}
use Rattle.fit_histories.proofs.Histories.Riding.{idle_goes}
use Rattle.fit_histories.proofs.Histories.Replies.{counted_by, done_of_call, erase_ran}
use Rattle.fit_histories.specs.declared.command.Command.TheVariants as commands
use Rattle.fit_histories.specs.Rides.Standing.{IsCounted}
use Rattle.fit_histories.proofs.ride.Ride.erase.Goals as goal

pub returns-clause-goes : goal.returns-clause-goes
returns-clause-goes g c honest = record {
  step = λ before stands.
      let done = c.erase.ensures in
      let file = seen_of Data (g.D.Disk.story c.erase.new.disk) in
      rw c.into-reply.ensures
      (idle_goes g.D.Disk.honest g.D.Disk.story before _ _ _
      (erase_goes before _ (c.into_disk-disk.ensures.rests honest before stands) (g.met.D.Disk.sound c.into_disk-disk.result honest) _ file c.erase.result
      (done.empty honest) done.fault (done.any_moment honest) (done.stays_empty honest)));
  left =
      let done = c.erase.ensures in
      rw (← c.into_disk-disk.ensures.disk) (record {
        empty = λ is. done_of_call c.erase.result c.into-reply.result _ c.into-reply.ensures (done.empty honest) is;
        moments = done.any_moment honest;
      });
}

pub returns-clause-never_full : goal.returns-clause-never_full
returns-clause-never_full g c honest before stands never =
    let done = c.erase.ensures in
    record {
      not_full = λ is. erasing_not_full c.erase.result done.fault (sym c.into-reply.ensures ∙ is);
      never_full = erased_fills _ (g.met.D.Disk.sound c.into_disk-disk.result honest) (c.into_disk-disk.ensures.never_fills honest before stands never) _ (done.any_moment honest);
    }

pub returns-clause-called : goal.returns-clause-called
returns-clause-called g c =
    let done = c.erase.ensures in
    record {
      counted = subst (λ disk. IsCounted commands.Erase c.into-reply.result (g.D.Disk.log disk).counts (g.D.Disk.log c.erase.new.disk).counts) c.into_disk-disk.ensures.disk
          (counted_by commands.Erase c.erase.result c.into-reply.result (g.D.Disk.log c.into_disk-disk.result) (g.D.Disk.log c.erase.new.disk) c.into-reply.ensures
          (erase_ran c.erase.result _ _ done.fault done.ran) (λ fault. refl) done.fewest);
      planned = done.ran.planned ∙ ap (λ disk. (g.D.Disk.log disk).schedule) c.into_disk-disk.ensures.disk;
    }

pub returns-clause-any_moment : goal.returns-clause-any_moment
returns-clause-any_moment g c honest before stands =
    rw (← c.into_disk-disk.ensures.disk) (erase_moments before (g.D.Disk.story c.into_disk-disk.result) (c.into_disk-disk.ensures.rests honest before stands)
    (g.met.D.Disk.sound c.into_disk-disk.result honest) (g.D.Disk.story c.erase.new.disk) (c.erase.ensures.any_moment honest) (c.erase.ensures.stays_empty honest))
