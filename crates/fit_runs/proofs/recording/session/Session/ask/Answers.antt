use Rattle.std.proofs.Common.{[], arith}
use Rattle.fit_runs.specs.Rides.Turns.{Asked, times_after}
use Rattle.fit_runs.proofs.Reported.Recorded.{prints_one, so_far_asked, ends_at}
use Rattle.fit_runs.proofs.recording.session.Session.ask.Goals as goal

pub returns-clause-asked : goal.returns-clause-asked
returns-clause-asked g c = λ every old turns known.
    let ran = c.ask-ride.ensures in
    let reply = c.ask-ride.result.1 in
    let last = c.last_time.result in
    let noted = rw c.is_ok.ensures at c.note-clock.ensures in (
      reply,
      last,
      so_far_asked g.D.Disk.honest g.D.Disk.story every old turns c.args.self _ c.args.event.now reply last known ran.reply ran.riding
          (omega (arith, c.refusals.ensures.count c.args.event.now last)) (noted.shows every (times_after [] turns) known.clock) (λ honest. (ran.goes honest).step) ran.any_moment
          (λ after. ends_at g.D.Disk.honest g.D.Disk.story c.ask-ride.result.0 after last c.last_time.ensures) ran.form,
      noted.due every (times_after [] turns) known.clock,
      prints_one _ _ _ (Asked c.args.event.now reply last) c.tell_line-printed.ensures.line,
    )
