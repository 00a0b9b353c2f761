use Rattle.std.proofs.Common.{◌∙◌, ap, arith, refl}
use Rattle.fit_journal.specs.Turn.{slots_left}
use Rattle.fit_recorder.specs.Calls.Answers.{HandAnswers}
use Rattle.fit_recorder.specs.Calls.Recorder.{data_len, disk_of}
use Rattle.fit_histories.proofs.Histories.Replies.{answered_by, replies_of_call, done_of_call, counted_by, entry_ran}
use Rattle.fit_recorder.proofs.Commit.Head.{rest_head, stands_rest}
use Rattle.fit_histories.proofs.Histories.NeverFull.{on_ok_of, rides_on}
use Rattle.fit_histories.proofs.Histories.Riding.{hand_goes}
use Rattle.fit_histories.proofs.Histories.Left.{kept_if_refused}
use Rattle.fit_histories.proofs.Histories.Begun.{same_form}
use Rattle.fit_histories.specs.declared.command.Command.TheVariants as commands
use Rattle.fit_histories.proofs.Histories.Moments.{hand_moments, idle_moments}
use Rattle.fit_histories.proofs.ride.Ride.hand.Goals as goal

pub returns-in-Riding-clause-replies : goal.returns-in-Riding-clause-replies
returns-in-Riding-clause-replies g c list handed =
    let known = rw c.in-Riding.is at handed in
    rw c.in-Riding.is
    (replies_of_call (HandAnswers list (data_len c.in-Riding.recorder) c.args.entry.now) c.hand.result c.into.result c.into.ensures
    (c.hand.ensures.answers list known.0 known.1))

pub returns-in-Riding-clause-handed : goal.returns-in-Riding-clause-handed
returns-in-Riding-clause-handed g c list handed done =
    let known = rw c.in-Riding.is at handed in (
      (done_of_call c.hand.result c.into.result _ c.into.ensures c.hand.ensures.ok done).handed list known.0,
      done_of_call c.hand.result c.into.result _ c.into.ensures c.hand.ensures.after.going done,
    )

pub returns-in-Riding-clause-goes : goal.returns-in-Riding-clause-goes
returns-in-Riding-clause-goes g c honest = record {
  step = λ before stands.
      let here = rw c.in-Riding.is at stands in
      let done = c.hand.ensures in
      rw c.into.ensures
      (hand_goes g.D.Disk.honest g.D.Disk.story c.in-Riding.recorder c.hand.new.self c.hand.result done.after.same done.after.failed done.after.gone c.args.entry.now c.requires.no_stop done.journal.slots
      done.answers done.after.going done.ok (done.any_moment honest) before here);
  left =
      let done = c.hand.ensures in
      rw c.in-Riding.is
      (kept_if_refused g.D.Disk.story c.in-Riding.recorder c.hand.new.self c.hand.result c.into.result c.into.ensures done.after.same, λ _. done.journal.file honest);
}

pub returns-in-Riding-clause-called : goal.returns-in-Riding-clause-called
returns-in-Riding-clause-called g c =
    rw c.in-Riding.is (record { counted = counted_by (commands.Entry c.args.entry.now) c.hand.result c.into.result _ _ c.into.ensures (entry_ran c.args.entry.now _ _ c.requires.no_stop c.hand.ensures.ran.ran) (λ fault. refl) (on_ok_of _ c.hand.result (omega (arith, c.hand.ensures.ran.ran.no_fewer))); planned = c.hand.ensures.ran.ran.planned })

pub returns-in-Riding-clause-never_full : goal.returns-in-Riding-clause-never_full
returns-in-Riding-clause-never_full g c honest before stands never =
    let here = rw c.in-Riding.is at stands in
    let full = rw c.in-Riding.is at never in
    let done = c.hand.ensures in
    rides_on g.D.Disk.honest g.D.Disk.story honest c.in-Riding.recorder c.hand.new.self c.hand.result done.after
    (λ list committed at. rest_head _ _ (stands_rest g.D.Disk.honest g.D.Disk.story c.in-Riding.recorder list committed at honest) (done.journal.file honest)) before here full
    (λ list result. HandAnswers list (data_len c.in-Riding.recorder) c.args.entry.now result) done.answers (λ _ list none. none)
    (on_ok_of _ c.hand.result (λ none. ap slots_left done.journal.slots ∙ none)) c.into.result c.into.ensures

pub returns-in-Riding-clause-answered : goal.returns-in-Riding-clause-answered
returns-in-Riding-clause-answered g c = rw c.in-Riding.is (answered_by _ _ _ _ c.hand.result c.hand.ensures.after c.into.result c.into.ensures)

pub returns-in-Riding-clause-form : goal.returns-in-Riding-clause-form
returns-in-Riding-clause-form g c checked honest before stands =
    rw c.in-Riding.is (λ form. same_form checked (g.D.Disk.story (disk_of c.in-Riding.recorder)) (g.D.Disk.story (disk_of c.hand.new.self)) (g.met.D.Disk.sound (disk_of c.in-Riding.recorder) honest) form (c.hand.ensures.journal.file honest))

pub returns-in-Idle-clause-any_moment : goal.returns-in-Idle-clause-any_moment
returns-in-Idle-clause-any_moment g c honest before stands =
    let here = rw c.in-Idle.is at stands in
    rw c.in-Idle.is (idle_moments g.D.Disk.honest g.D.Disk.story (commands.Entry c.args.entry.now) (λ claims begun contents fits. fits) _ before here)

pub returns-in-Riding-clause-any_moment : goal.returns-in-Riding-clause-any_moment
returns-in-Riding-clause-any_moment g c honest before stands =
    let here = rw c.in-Riding.is at stands in
    let done = c.hand.ensures in
    rw c.in-Riding.is
    (hand_moments g.D.Disk.honest g.D.Disk.story c.in-Riding.recorder c.hand.new.self c.hand.result done.after c.args.entry.now c.requires.no_stop (done.any_moment honest) before here)
