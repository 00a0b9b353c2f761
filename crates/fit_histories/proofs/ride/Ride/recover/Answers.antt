use Rattle.std.proofs.Common.{◌∙◌, ap, refl, subst, sym}
use Rattle.fit_histories.proofs.Histories.NeverFull.{recovery_not_full, recovered_fills}
use Rattle.fit_disk.specs.Story.{seen_of}
use Rattle.fit_disk.specs.declared.disk.Which.TheVariants.{Data}
use Rattle.fit_histories.proofs.Histories.Idle.{recover_goes, recovery_moments}
use Rattle.fit_histories.proofs.Histories.Replies.{recovery_counted, replies_recovery}
use Rattle.fit_histories.proofs.Histories.Riding.{idle_goes}
use Rattle.fit_histories.proofs.Histories.Begun.{synced_form}
use Rattle.fit_histories.specs.declared.command.Command.TheVariants as commands
use Rattle.fit_histories.specs.Rides.Standing.{IsCounted}
use Rattle.fit_histories.proofs.Histories.Moments.{unended}
use Rattle.fit_histories.proofs.ride.Ride.recover.Goals as goal

pub returns-clause-goes : goal.returns-clause-goes
returns-clause-goes g c honest = record {
  step = λ before stands.
      let done = c.recover.ensures in
      let file = seen_of Data (g.D.Disk.story c.recover.new.disk) in
      rw c.into-reply.ensures
      (idle_goes g.D.Disk.honest g.D.Disk.story before _ _ _
      (recover_goes before _ (c.into_disk-disk.ensures.rests honest before stands) (g.met.D.Disk.sound c.into_disk-disk.result honest) _ file c.recover.result refl
      (done.decides honest) (done.any_moment honest) (done.settled honest)));
  left =
      let done = c.recover.ensures in
      rw (← c.into_disk-disk.ensures.disk) (record {
        result = c.recover.result;
        replied = c.into-reply.ensures;
        answers = done.decides honest;
        settled = done.settled honest;
        moments = done.any_moment honest;
        journal = done.journal honest;
      });
}

pub returns-clause-replies : goal.returns-clause-replies
returns-clause-replies g c = rw c.into-reply.ensures (replies_recovery c.recover.result c.recover.ensures.known_fault)

pub returns-clause-never_full : goal.returns-clause-never_full
returns-clause-never_full g c honest before stands never =
    let done = c.recover.ensures in
    record {
      not_full = λ is. recovery_not_full c.recover.result done.known_fault (sym c.into-reply.ensures ∙ is);
      never_full = recovered_fills _ (g.met.D.Disk.sound c.into_disk-disk.result honest) (c.into_disk-disk.ensures.never_fills honest before stands never) _ (done.journal honest) (done.any_moment honest);
    }

pub returns-clause-form : goal.returns-clause-form
returns-clause-form g c checked honest before stands =
    rw (← c.into_disk-disk.ensures.disk)
    (λ form. synced_form checked (g.D.Disk.story c.into_disk-disk.result) (g.D.Disk.story c.recover.new.disk) (g.met.D.Disk.sound c.into_disk-disk.result honest) form (c.recover.ensures.journal honest))

pub returns-clause-called : goal.returns-clause-called
returns-clause-called g c =
    let done = c.recover.ensures in
    record {
      counted = subst (λ disk. IsCounted commands.Recover c.into-reply.result (g.D.Disk.log disk).counts (g.D.Disk.log c.recover.new.disk).counts) c.into_disk-disk.ensures.disk
          (recovery_counted c.recover.result c.into-reply.result (g.D.Disk.log c.into_disk-disk.result) (g.D.Disk.log c.recover.new.disk) c.into-reply.ensures done.ran done.fewest);
      planned = done.ran.planned ∙ ap (λ disk. (g.D.Disk.log disk).schedule) c.into_disk-disk.ensures.disk;
    }

pub returns-clause-any_moment : goal.returns-clause-any_moment
returns-clause-any_moment g c honest before stands =
    rw (← c.into_disk-disk.ensures.disk) (unended before _ _ (recovery_moments before (g.D.Disk.story c.into_disk-disk.result) (c.into_disk-disk.ensures.rests honest before stands)
    (g.met.D.Disk.sound c.into_disk-disk.result honest) (g.D.Disk.story c.recover.new.disk) (c.recover.ensures.any_moment honest)))
