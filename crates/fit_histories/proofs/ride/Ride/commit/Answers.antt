use Rattle.std.proofs.Common.{◌∙◌, ap, refl}
use Rattle.std.proofs.lemmas.Result.{on_ok_weaker}
use Rattle.fit_journal.specs.Turn.{slots_left}
use Rattle.fit_recorder.specs.Calls.Answers.{CommitAnswers}
use Rattle.fit_recorder.specs.Calls.Recorder.{disk_of, journal_slots}
use Rattle.fit_histories.proofs.Histories.Replies.{answered_by, replies_of_call, done_of_call, counted_by}
use Rattle.fit_recorder.proofs.Commit.Slots.{committed_turns}
use Rattle.fit_histories.proofs.Histories.NeverFull.{rides_on}
use Rattle.fit_histories.proofs.Histories.Riding.{commit_goes, never_full}
use Rattle.fit_histories.proofs.Histories.Left.{kept_if_refused}
use Rattle.fit_histories.proofs.Histories.Begun.{called_form}
use Rattle.fit_histories.specs.declared.command.Command.TheVariants as commands
use Rattle.fit_histories.proofs.Histories.Moments.{commit_moments, idle_moments}
use Rattle.fit_histories.proofs.ride.Ride.commit.Goals as goal

pub returns-in-Riding-clause-replies : goal.returns-in-Riding-clause-replies
returns-in-Riding-clause-replies g c list handed =
    let known = rw c.in-Riding.is at handed in
    rw c.in-Riding.is
    (replies_of_call (CommitAnswers list (journal_slots c.in-Riding.recorder)) c.commit.result c.into.result c.into.ensures
    (c.commit.ensures.answers list known.0 known.1))

pub returns-in-Riding-clause-handed : goal.returns-in-Riding-clause-handed
returns-in-Riding-clause-handed g c list handed done =
    let known = rw c.in-Riding.is at handed in (
      (done_of_call c.commit.result c.into.result _ c.into.ensures c.commit.ensures.ok done).handed list known.0,
      done_of_call c.commit.result c.into.result _ c.into.ensures c.commit.ensures.after.going done,
    )

pub returns-in-Riding-clause-made : goal.returns-in-Riding-clause-made
returns-in-Riding-clause-made g c done =
    rw c.in-Riding.is (done_of_call c.commit.result c.into.result _ c.into.ensures c.commit.ensures.slots done)

pub returns-in-Riding-clause-goes : goal.returns-in-Riding-clause-goes
returns-in-Riding-clause-goes g c honest = record {
  step = λ before stands.
      let here = rw c.in-Riding.is at stands in
      let done = c.commit.ensures in
      rw c.into.ensures
      (commit_goes g.D.Disk.honest g.D.Disk.story c.in-Riding.recorder c.commit.new.self c.commit.result done.after.same done.after.failed done.after.gone
      done.answers (λ none. on_ok_weaker c.commit.result (λ slots. ap slots_left slots ∙ committed_turns _ _ _ none) done.slots) done.after.going done.ok (done.any_moment honest) before here);
  left =
      rw c.in-Riding.is
      (kept_if_refused g.D.Disk.story c.in-Riding.recorder c.commit.new.self c.commit.result c.into.result c.into.ensures c.commit.ensures.after.same);
}

pub returns-in-Riding-clause-never_full : goal.returns-in-Riding-clause-never_full
returns-in-Riding-clause-never_full g c honest before stands never =
    let here = rw c.in-Riding.is at stands in
    let full = rw c.in-Riding.is at never in
    let done = c.commit.ensures in
    rides_on g.D.Disk.honest g.D.Disk.story honest c.in-Riding.recorder c.commit.new.self c.commit.result done.after (done.head honest) before here full
    (λ list result. CommitAnswers list (journal_slots c.in-Riding.recorder) result) done.answers (λ none list full. never_full (journal_slots c.in-Riding.recorder) none full.1)
    (on_ok_weaker c.commit.result (λ slots none. ap slots_left slots ∙ committed_turns _ _ _ none) done.slots) c.into.result c.into.ensures

pub returns-in-Riding-clause-answered : goal.returns-in-Riding-clause-answered
returns-in-Riding-clause-answered g c = rw c.in-Riding.is (answered_by _ _ _ _ c.commit.result c.commit.ensures.after c.into.result c.into.ensures)

pub returns-in-Riding-clause-form : goal.returns-in-Riding-clause-form
returns-in-Riding-clause-form g c checked honest before stands =
    let here = rw c.in-Riding.is at stands in
    let done = c.commit.ensures in
    rw c.in-Riding.is
    (called_form g.D.Disk.honest g.D.Disk.story honest checked c.in-Riding.recorder c.commit.new.self c.commit.result done.after (done.head honest) before here
    (g.met.D.Disk.sound (disk_of c.in-Riding.recorder) honest))

pub returns-in-Riding-clause-called : goal.returns-in-Riding-clause-called
returns-in-Riding-clause-called g c =
    let done = c.commit.ensures in
    rw c.in-Riding.is (record { counted = counted_by commands.Commit c.commit.result c.into.result _ _ c.into.ensures done.ran.ran (λ fault. refl) done.fewest; planned = done.ran.ran.planned })

pub returns-in-Idle-clause-any_moment : goal.returns-in-Idle-clause-any_moment
returns-in-Idle-clause-any_moment g c honest before stands =
    let here = rw c.in-Idle.is at stands in
    rw c.in-Idle.is (idle_moments g.D.Disk.honest g.D.Disk.story commands.Commit (λ claims begun contents fits. fits) _ before here)

pub returns-in-Riding-clause-any_moment : goal.returns-in-Riding-clause-any_moment
returns-in-Riding-clause-any_moment g c honest before stands =
    let here = rw c.in-Riding.is at stands in
    let done = c.commit.ensures in
    rw c.in-Riding.is (commit_moments g.D.Disk.honest g.D.Disk.story c.in-Riding.recorder c.commit.new.self c.commit.result done.after (done.any_moment honest) before here)
