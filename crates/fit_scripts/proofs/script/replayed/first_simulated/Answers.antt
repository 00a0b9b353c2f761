use Rattle.std.proofs.Common.{◌≡◌, ◌+◌, ◌<◌, All, List, ℕ, length, drop, get_or, false, refl, sym, ◌∙◌, subst, arith, add-one, drop-cons}
use Rattle.std.proofs.lemmas.List.{take_all}
use Rattle.std.proofs.lemmas.List.Elements.{All-more}
use Rattle.fit_histories.specs.declared.event.Event.{Event}
use Rattle.fit_histories.specs.Commands.{is_simulated}
use Rattle.fit_scripts.specs.Scripts.Replayed.{IsReplayed, first_simulated}
use Rattle.fit_scripts.proofs.script.replayed.first_simulated.Goals as goal

first_later : (events : List Event) (i : ℕ) (d : Event) → i < length events → is_simulated (get_or events i d).command ≡ false →
    first_simulated (drop i events) ≡ first_simulated (drop (i + 1) events)
first_later events i d within replayed = rw (drop-cons events i d within, replayed, add-one i) refl

pub loop-event-preserved : goal.loop-event-preserved
loop-event-preserved c =
    let replayed = sym c.is_simulated.ensures ∙ c.if-is_simulated.false in
    record {
      replayed = All-more IsReplayed c.args.events.now c.loop-event.event-index _ c.loop-event-test.true c.loop-event.invariant.replayed replayed;
      line = c.loop-event.invariant.line ∙ first_later c.args.events.now c.loop-event.event-index _ c.loop-event-test.true replayed;
    }

pub returns-clause-none : goal.returns-clause-none
returns-clause-none c =
    subst (All IsReplayed) (take_all c.loop-event.event-index c.args.events.now (omega arith)) c.loop-event.invariant.replayed
