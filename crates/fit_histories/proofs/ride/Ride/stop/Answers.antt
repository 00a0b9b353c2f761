use Rattle.std.proofs.Common.{rules, ap, sym}
use Rattle.fit_recorder.specs.Calls.Answers.{StopAnswers}
use Rattle.fit_histories.specs.declared.reply.Reply.TheVariants as replies
use Rattle.fit_histories.specs.Rides.Replies.{reply_of}
use Rattle.fit_histories.proofs.Histories.NeverFull.{on_err_of, rides_on, stopped_fills}
use Rattle.fit_histories.proofs.Histories.Riding.{stop_goes, stop_done}
use Rattle.fit_histories.proofs.Histories.Left.{kept_if_refused}
use Rattle.fit_recorder.specs.Calls.Recorder.{disk_of}
use Rattle.fit_histories.proofs.Histories.Begun.{called_form}
use Rattle.fit_histories.proofs.Histories.Moments.{idle_moments, stop_moments}
use Rattle.fit_activity.specs.declared.recording.entry.Entry.TheVariants.{Stop}
use Rattle.fit_histories.specs.declared.command.Command.TheVariants as commands
use Rattle.fit_histories.proofs.ride.Ride.stop.Goals as goal

pub returns-in-Ok-clause-replies : goal.returns-in-Ok-clause-replies
returns-in-Ok-clause-replies g c list handed =
    let known = rw c.in-Riding.is at handed in
    c.in-Ok.ensures.answers list known.0 known.1

pub returns-in-Ok-clause-goes : goal.returns-in-Ok-clause-goes
returns-in-Ok-clause-goes g c honest = record {
  step = λ before stands.
      let here = rw c.in-Riding.is at stands in
      let stop = c.stop.ensures in
      stop_done g.D.Disk.honest g.D.Disk.story c.in-Riding.recorder c.stop.new.self c.stop.result stop.after.same stop.after.failed stop.after.gone c.args.time stop.answers stop.ok (stop.finished honest) (stop.any_moment honest)
      (stop.within honest) before c.into_disk.result tt c.in-Ok.is c.into_disk.ensures.disk here;
  left =
      search rules;
}

pub returns-in-Err-clause-goes : goal.returns-in-Err-clause-goes
returns-in-Err-clause-goes g c honest = record {
  step = λ before stands.
      let here = rw c.in-Riding.is at stands in
      let stop = c.stop.ensures in
      stop_goes g.D.Disk.honest g.D.Disk.story c.in-Riding.recorder c.stop.new.self c.stop.result stop.after.same stop.after.failed stop.after.gone c.args.time stop.answers stop.ok (stop.finished honest) (stop.any_moment honest)
      before c.in-Err.fault c.in-Err.is here;
  left =
      rw c.in-Riding.is (
        kept_if_refused g.D.Disk.story c.in-Riding.recorder c.stop.new.self c.stop.result (replies.Refused c.in-Err.fault) (sym (ap reply_of c.in-Err.is)) c.stop.ensures.after.same,
        λ none. absurd cc,
      );
}

pub returns-in-Ok-clause-never_full : goal.returns-in-Ok-clause-never_full
returns-in-Ok-clause-never_full g c honest before stands never =
    let here = rw c.in-Riding.is at stands in
    let full = rw c.in-Riding.is at never in
    record {
      not_full = λ is. absurd cc;
      never_full = rw c.into_disk.ensures.disk (stopped_fills g.D.Disk.honest g.D.Disk.story honest c.in-Riding.recorder c.stop.new.self c.stop.result c.stop.ensures.after (c.stop.ensures.head honest) before here full tt c.in-Ok.is);
    }

pub returns-in-Err-clause-never_full : goal.returns-in-Err-clause-never_full
returns-in-Err-clause-never_full g c honest before stands never =
    let here = rw c.in-Riding.is at stands in
    let full = rw c.in-Riding.is at never in
    let done = c.stop.ensures in
    rides_on g.D.Disk.honest g.D.Disk.story honest c.in-Riding.recorder c.stop.new.self c.stop.result done.after (done.head honest) before here full
    (λ list result. StopAnswers list c.args.time result) done.answers (λ _ list none. none) (on_err_of _ c.stop.result c.in-Err.fault c.in-Err.is) (replies.Refused c.in-Err.fault) (sym (ap reply_of c.in-Err.is))

pub returns-in-Ok-clause-form : goal.returns-in-Ok-clause-form
returns-in-Ok-clause-form g c checked honest before stands =
    let here = rw c.in-Riding.is at stands in
    let done = c.stop.ensures in
    rw (c.in-Riding.is, c.into_disk.ensures.disk)
    (called_form g.D.Disk.honest g.D.Disk.story honest checked c.in-Riding.recorder c.stop.new.self c.stop.result done.after (done.head honest) before here
    (g.met.D.Disk.sound (disk_of c.in-Riding.recorder) honest))

pub returns-in-Err-clause-form : goal.returns-in-Err-clause-form
returns-in-Err-clause-form g c checked honest before stands =
    let here = rw c.in-Riding.is at stands in
    let done = c.stop.ensures in
    rw c.in-Riding.is
    (called_form g.D.Disk.honest g.D.Disk.story honest checked c.in-Riding.recorder c.stop.new.self c.stop.result done.after (done.head honest) before here
    (g.met.D.Disk.sound (disk_of c.in-Riding.recorder) honest))

pub returns-in-Idle-clause-any_moment : goal.returns-in-Idle-clause-any_moment
returns-in-Idle-clause-any_moment g c honest before stands =
    let here = rw c.in-Idle.is at stands in
    rw c.in-Idle.is (idle_moments g.D.Disk.honest g.D.Disk.story (commands.Entry (Stop c.args.time)) (λ claims begun contents fits. fits) _ before here)

pub returns-in-Ok-clause-any_moment : goal.returns-in-Ok-clause-any_moment
returns-in-Ok-clause-any_moment g c honest before stands =
    let here = rw c.in-Riding.is at stands in
    let done = c.stop.ensures in
    rw (c.in-Riding.is, c.into_disk.ensures.disk)
    (stop_moments g.D.Disk.honest g.D.Disk.story c.in-Riding.recorder c.stop.new.self c.stop.result done.after c.args.time (done.any_moment honest) before here)

pub returns-in-Err-clause-any_moment : goal.returns-in-Err-clause-any_moment
returns-in-Err-clause-any_moment g c honest before stands =
    let here = rw c.in-Riding.is at stands in
    let done = c.stop.ensures in
    rw c.in-Riding.is
    (stop_moments g.D.Disk.honest g.D.Disk.story c.in-Riding.recorder c.stop.new.self c.stop.result done.after c.args.time (done.any_moment honest) before here)
