use Rattle.std.proofs.Common.{◌∙◌, sym, true≢false}
use Rattle.fit_histories.proofs.Histories.NeverFull.{resumed_turns, resume_not_full, recovered_fills}
use Rattle.fit_histories.proofs.Histories.Idle.{reopen_goes, recovery_moments}
use Rattle.fit_histories.proofs.Histories.Riding.{idle_goes, reopened_goes}
use Rattle.fit_recorder.specs.Calls.Recorder.{disk_of}
use Rattle.fit_histories.proofs.Histories.Begun.{synced_form}
use Rattle.fit_histories.proofs.Histories.Moments.{unended}
use Rattle.fit_histories.proofs.ride.Ride.reopen.Goals as goal

pub returns-in-Ok-clause-goes : goal.returns-in-Ok-clause-goes
returns-in-Ok-clause-goes g c honest = record {
  step = λ before stands.
      reopened_goes g.D.Disk.honest g.D.Disk.story before (g.D.Disk.story c.into_disk.result) (c.into_disk.ensures.rests honest before stands) (g.met.D.Disk.sound c.into_disk.result honest)
      c.in-Ok.resumed (c.in-Ok.ensures.decides honest);
  left =
      let resumed = c.in-Ok.ensures.decides honest in
      rw (← c.into_disk.ensures.disk) (record {
        reopens = record { list = resumed.list; stood = resumed.stood; running = resumed.running; cut = resumed.cut };
        moments = c.in-Ok.ensures.any_moment honest;
        journal = c.in-Ok.ensures.journal honest;
      });
}

pub returns-in-Err-clause-goes : goal.returns-in-Err-clause-goes
returns-in-Err-clause-goes g c honest = record {
  step = λ before stands.
      let refused = c.in-Err.ensures in
      idle_goes g.D.Disk.honest g.D.Disk.story before _ _ _
      (reopen_goes before _ (c.into_disk.ensures.rests honest before stands) (g.met.D.Disk.sound c.into_disk.result honest) _
      c.in-Err.fault (refused.decides honest) (refused.any_moment honest) (refused.settled honest));
  left =
      let refused = c.in-Err.ensures in
      rw (← c.into_disk.ensures.disk) (record {
        reopens = (refused.decides honest, refused.settled honest);
        moments = refused.any_moment honest;
        journal = refused.journal honest;
      });
}

pub returns-in-Ok-clause-never_full : goal.returns-in-Ok-clause-never_full
returns-in-Ok-clause-never_full g c honest before stands never =
    let resumed = c.in-Ok.ensures.decides honest in
    record {
      not_full = λ is. absurd cc;
      never_full = (
        λ _. resumed_turns (g.D.Disk.story c.into_disk.result) (g.met.D.Disk.sound c.into_disk.result honest) (c.into_disk.ensures.never_fills honest before stands never) g.D.Disk.honest g.D.Disk.story c.in-Ok.resumed resumed,
        λ broken. absurd (true≢false (sym broken ∙ resumed.going)),
      );
    }

pub returns-in-Err-clause-never_full : goal.returns-in-Err-clause-never_full
returns-in-Err-clause-never_full g c honest before stands never =
    let refused = c.in-Err.ensures in
    let sound = g.met.D.Disk.sound c.into_disk.result honest in
    let fills = c.into_disk.ensures.never_fills honest before stands never in
    record {
      not_full = λ is. resume_not_full (g.D.Disk.story c.into_disk.result) sound fills c.in-Err.fault (refused.decides honest) is;
      never_full = recovered_fills (g.D.Disk.story c.into_disk.result) sound fills _ (refused.journal honest) (refused.any_moment honest);
    }

pub returns-in-Ok-clause-form : goal.returns-in-Ok-clause-form
returns-in-Ok-clause-form g c checked honest before stands =
    rw (← c.into_disk.ensures.disk) (λ form. synced_form checked (g.D.Disk.story c.into_disk.result) (g.D.Disk.story (disk_of c.in-Ok.resumed)) (g.met.D.Disk.sound c.into_disk.result honest) form (c.in-Ok.ensures.journal honest))

pub returns-in-Err-clause-form : goal.returns-in-Err-clause-form
returns-in-Err-clause-form g c checked honest before stands =
    rw (← c.into_disk.ensures.disk) (λ form. synced_form checked (g.D.Disk.story c.into_disk.result) (g.D.Disk.story c.in-Err.kept) (g.met.D.Disk.sound c.into_disk.result honest) form (c.in-Err.ensures.journal honest))

pub returns-in-Ok-clause-any_moment : goal.returns-in-Ok-clause-any_moment
returns-in-Ok-clause-any_moment g c honest before stands =
    rw (← c.into_disk.ensures.disk) (unended before _ _ (recovery_moments before (g.D.Disk.story c.into_disk.result) (c.into_disk.ensures.rests honest before stands)
    (g.met.D.Disk.sound c.into_disk.result honest) (g.D.Disk.story (disk_of c.in-Ok.resumed)) (c.in-Ok.ensures.any_moment honest)))

pub returns-in-Err-clause-any_moment : goal.returns-in-Err-clause-any_moment
returns-in-Err-clause-any_moment g c honest before stands =
    rw (← c.into_disk.ensures.disk) (unended before _ _ (recovery_moments before (g.D.Disk.story c.into_disk.result) (c.into_disk.ensures.rests honest before stands)
    (g.met.D.Disk.sound c.into_disk.result honest) (g.D.Disk.story c.in-Err.kept) (c.in-Err.ensures.any_moment honest)))
