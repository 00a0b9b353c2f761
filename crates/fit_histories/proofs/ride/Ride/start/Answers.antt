use Rattle.std.proofs.Common.{◌∙◌, ap, sym, true≢false}
use Rattle.fit_journal.specs.Turn.{fresh_slots, slots_left}
use Rattle.fit_recorder.proofs.Commit.Slots.{committed_turns, fresh_left}
use Rattle.fit_histories.proofs.Histories.NeverFull.{start_not_full}
use Rattle.fit_histories.proofs.Histories.Idle.{empty_there, start_goes, start_moments}
use Rattle.fit_histories.proofs.Histories.Riding.{idle_goes, started_goes}
use Rattle.fit_histories.proofs.Histories.Left.{start_refused}
use Rattle.fit_histories.proofs.Histories.Begun.{started_form, refused_form}
use Rattle.fit_recorder.specs.Calls.Recorder.{disk_of}
use Rattle.fit_histories.proofs.ride.Ride.start.Goals as goal

pub returns-in-Ok-clause-goes : goal.returns-in-Ok-clause-goes
returns-in-Ok-clause-goes g c honest = record {
  step = λ before stands.
      let begun = c.in-Ok.ensures in
      started_goes g.D.Disk.honest g.D.Disk.story before c.args.start c.in-Ok.recorder
      (empty_there before (g.D.Disk.story c.into_disk.result) (c.into_disk.ensures.rests honest before stands) (g.met.D.Disk.sound c.into_disk.result honest) (begun.empty honest)) begun.answers begun.ok.1 begun.ok.0 (ap slots_left begun.begun.turns ∙ committed_turns (fresh_slots c.args.checked) _ _ (fresh_left c.args.checked));
  left =
      let begun = c.in-Ok.ensures in rw (← c.into_disk.ensures.disk) (begun.empty honest, begun.any_moment honest);
}

pub returns-in-Err-clause-goes : goal.returns-in-Err-clause-goes
returns-in-Err-clause-goes g c honest = record {
  step = λ before stands.
      let refused = c.in-Err.ensures in
      idle_goes g.D.Disk.honest g.D.Disk.story before _ _ _
      (start_goes before _ (c.into_disk.ensures.rests honest before stands) (g.met.D.Disk.sound c.into_disk.result honest) c.args.start _ (refused.any_moment honest) c.in-Err.fault refused.answers
      (λ refusal is. ap g.D.Disk.story (refused.handed_back.same refusal is)) (λ is. (refused.handed_back.not_empty honest is).0));
  left =
      let refused = c.in-Err.ensures in
      rw (← c.into_disk.ensures.disk)
      (start_refused c.args.start _ _ c.in-Err.fault (λ refusal is. ap g.D.Disk.story (refused.handed_back.same refusal is))
      (refused.handed_back.not_empty honest) (refused.any_moment honest));
}

pub returns-in-Ok-clause-never_full : goal.returns-in-Ok-clause-never_full
returns-in-Ok-clause-never_full g c honest before stands never = record {
  not_full = λ is. absurd cc;
  never_full = (λ _. ap slots_left c.in-Ok.ensures.begun.turns ∙ committed_turns (fresh_slots c.args.checked) _ _ (fresh_left c.args.checked), λ broken. absurd (true≢false (sym broken ∙ c.in-Ok.ensures.ok.0)));
}

pub returns-in-Err-clause-never_full : goal.returns-in-Err-clause-never_full
returns-in-Err-clause-never_full g c honest before stands never = record {
  not_full = λ is. start_not_full c.args.start c.in-Err.fault c.in-Err.ensures.answers is;
  never_full = c.in-Err.ensures.never_fills honest (c.into_disk.ensures.never_fills honest before stands never);
}

pub returns-in-Ok-clause-form : goal.returns-in-Ok-clause-form
returns-in-Ok-clause-form g c honest before stands =
    let begun = c.in-Ok.ensures in
    started_form g.D.Disk.honest g.D.Disk.story honest c.args.checked c.in-Ok.recorder _ _ begun.ok.1 begun.begun.turns

pub returns-in-Err-clause-form : goal.returns-in-Err-clause-form
returns-in-Err-clause-form g c honest before stands =
    let refused = c.in-Err.ensures in
    rw (← c.into_disk.ensures.disk)
    (refused_form c.args.checked c.args.start (g.D.Disk.story c.into_disk.result) (g.D.Disk.story c.in-Err.disk) c.in-Err.fault refused.answers (λ refusal is. ap g.D.Disk.story (refused.handed_back.same refusal is))
    (λ is. (refused.handed_back.not_empty honest is).0) (refused.any_moment honest))

pub returns-in-Ok-clause-any_moment : goal.returns-in-Ok-clause-any_moment
returns-in-Ok-clause-any_moment g c honest before stands =
    rw (← c.into_disk.ensures.disk) (start_moments before (g.D.Disk.story c.into_disk.result) (c.into_disk.ensures.rests honest before stands) (g.met.D.Disk.sound c.into_disk.result honest)
    c.args.start (g.D.Disk.story (disk_of c.in-Ok.recorder)) (c.in-Ok.ensures.any_moment honest))

pub returns-in-Err-clause-any_moment : goal.returns-in-Err-clause-any_moment
returns-in-Err-clause-any_moment g c honest before stands =
    rw (← c.into_disk.ensures.disk) (start_moments before (g.D.Disk.story c.into_disk.result) (c.into_disk.ensures.rests honest before stands) (g.met.D.Disk.sound c.into_disk.result honest)
    c.args.start (g.D.Disk.story c.in-Err.disk) (c.in-Err.ensures.any_moment honest))
