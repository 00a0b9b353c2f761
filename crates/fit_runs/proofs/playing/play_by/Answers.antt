use Rattle.std.proofs.Common.{[], ◌∷◌, ◌++◌, ◌+◌, drop, sym, ◌∙◌, ap, arith}
use Rattle.fit_runs.proofs.Reported.Played.{not_begun, rode_on, all_left, some_left}
use Rattle.fit_runs.proofs.Reported.Replayed.{none_yet, one_ok, one_refused, at_the_end, cut_off}
use Rattle.fit_runs.proofs.playing.play_by.Goals as goal
use Rattle.fit_runs.proofs.playing.play_by.Goals.{then-not-is_ok, else-not-is_ok}

pub loop-event-init : goal.loop-event-init
loop-event-init g c = record {
  goes_on = tt;
  most = omega arith;
  so_far =
      ([], none_yet c.args.events.now c.args.pen.now, not_begun c.args.checked g.D.Disk.honest g.D.Disk.story c.args.disk c.args.events.now);
  waits = c.requires.waits;
}

pub loop-event-preserved : goal.loop-event-preserved
loop-event-preserved g c =
    let known = c.loop-event.invariant in
    let ran = c.ask-next.ensures in
    let put = c.in_default.ensures.line in
    let stated = known.so_far.0 in
    let rode =
    rode_on c.args.checked g.D.Disk.honest g.D.Disk.story (g.D.Disk.story c.args.disk) c.args.events.now c.loop-event.event-index _ stated c.loop-event.ride
    c.ask-next.result.0 c.ask-next.result.1 c.loop-event-test.true known.so_far.2 (λ honest. (ran.goes honest).step) ran.any_moment ran.form in
    elim c.if-not-is_ok.branch [
      | then-not-is_ok w ↦ record {
        goes_on = ran.goes_on;
        most = omega (arith, w.refused-is, known.most);
        so_far = rw w.refused-is (
          stated ++ c.ask-next.result.1 ∷ [],
          one_refused c.args.events.now c.loop-event.event-index _ _ _ stated _ _ _ _ _ c.loop-event-test.true known.so_far.1 ran.reply ran.riding
              (sym c.is_ok.ensures ∙ w.if-not-is_ok.true) (put.same, put.all),
          rode,
        );
        waits = c.in_default.ensures.none;
      }
      | else-not-is_ok w ↦ record {
        goes_on = ran.goes_on;
        most = omega (arith, w.refused-is, known.most);
        so_far = rw w.refused-is (
          stated ++ c.ask-next.result.1 ∷ [],
          one_ok c.args.events.now c.loop-event.event-index _ _ _ stated _ _ _ _ _ c.loop-event-test.true known.so_far.1 ran.reply ran.riding
              (sym c.is_ok.ensures ∙ w.if-not-is_ok.false) (put.same, put.all),
          rode,
        );
        waits = c.in_default.ensures.none;
      }
    ]

pub returns-clause-outcome : goal.returns-clause-outcome
returns-clause-outcome g c =
    let so_far = c.loop-event.invariant.so_far in
    at_the_end c.args.events.now c.loop-event.event-index _ so_far.0 _ _ _ _ c.loop-event-test.false c.requires.waits
    c.loop-event.invariant.waits so_far.1
    (all_left c.args.checked g.D.Disk.honest g.D.Disk.story (g.D.Disk.story c.args.disk) _ c.args.events.now c.loop-event.event-index so_far.0 c.loop-event.ride
    c.loop-event-test.false so_far.2 c.into_disk-2.ensures.rests (ap g.D.Disk.story c.into_disk-2.ensures.disk))

pub returns-in-Err-clause-broken_off : goal.returns-in-Err-clause-broken_off
returns-in-Err-clause-broken_off g c =
    let honest = g.D.Disk.honest in
    let story = g.D.Disk.story in
    let events = c.args.events.now in
    let i = c.loop-event.event-index in
    let so_far = c.loop-event.invariant.so_far in
    let stated = so_far.0 ++ c.ask-next.result.1 ∷ [] in
    cut_off c.args.checked honest _ _ events i _ _ so_far.0 c.ask-next.result.1 _ _ _ _ c.loop-event-test.true c.requires.waits
    c.loop-event.invariant.waits so_far.1 c.ask-next.ensures.reply c.in-Err.ensures.line.beginning
    (some_left c.args.checked honest story (story c.args.disk) _ events (drop (i + 1) events) stated c.ask-next.result.0
    (rode_on c.args.checked honest story (story c.args.disk) events i _ so_far.0 c.loop-event.ride c.ask-next.result.0 c.ask-next.result.1
    c.loop-event-test.true so_far.2 (λ honest. (c.ask-next.ensures.goes honest).step) c.ask-next.ensures.any_moment c.ask-next.ensures.form)
    c.into_disk.ensures.rests (ap story c.into_disk.ensures.disk))
