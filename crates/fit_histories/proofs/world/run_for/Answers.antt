use Rattle.std.proofs.Common.{[], sym, ◌∙◌}
use Rattle.std.proofs.lemmas.List.{take_rest}
use Rattle.fit_histories.proofs.Simulation.Counts.{unspent_first}
use Rattle.fit_histories.proofs.Histories.Runs.{first_leads, leads_on, at_the_end}
use Rattle.fit_histories.proofs.world.run_for.Goals as goal

pub loop-event-init : goal.loop-event-init
loop-event-init g c =
    let new = c.new.ensures in
    record {
      goes_on = tt;
      not_spent = unspent_first c.new.result new.refused new.counts;
      so_far = ([], c.requires.first, first_leads c.args.checked c.args.choices.now c.args.events.now c.new.result new.story new.counts new.schedule);
    }

pub loop-event-preserved : goal.loop-event-preserved
loop-event-preserved g c =
    let next = c.step-next.result.0 in
    let step = c.step-next.ensures in
    let not_spent = sym c.spent.ensures ∙ c.if-spent.false in
    let so_far = c.loop-event.invariant.so_far in
    record {
      goes_on = step.goes_on;
      not_spent = not_spent;
      so_far = (
        _,
        c.in_ok-keep.ensures so_far.0 so_far.1,
        rw (take_rest c.loop-event.choices.now c.step-next.result.2) (leads_on c.args.checked c.args.choices.now c.loop-event.choices.now c.step-next.result.2 c.args.events.now c.loop-event.event-index _ so_far.0 c.loop-event.ride next c.step-next.result.1 c.file.result.now
            c.loop-event-test.true c.loop-event.invariant.not_spent not_spent so_far.2 step.step step.never_full step.form step.moves c.file.ensures step.taken step.left),
      );
    }

pub returns : goal.returns
returns g c =
    let so_far = c.loop-event.invariant.so_far in
    let all = at_the_end c.args.checked c.args.choices.now c.loop-event.choices.now c.args.events.now c.loop-event.event-index _ _ c.loop-event-test.false so_far.2 in
    (so_far.0, all.0, all.1, so_far.1)
