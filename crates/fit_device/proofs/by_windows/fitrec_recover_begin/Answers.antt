use Rattle.std.proofs.Common.{◌≡◌, ◌∙◌, length, refl, sym, ap, subst, arith}
use Rattle.std.specs.Prelude.{is_err}
use Rattle.fit_disk.specs.State.{BothLeft, Contents, seen_in}
use Rattle.fit_disk.specs.Story.{Story, Throughout, seen_of}
use Rattle.fit_disk.specs.declared.disk.Which.TheVariants.{Journal}
use Rattle.fit_device.specs.Windowed.{recovery_story}
use Rattle.fit_plan.specs.Plan.{plan_story}
use Rattle.fit_recorder.specs.Files.Settled.{IsSettled}
use Rattle.fit_recorder.specs.Calls.Counts.{settling_calls}
use Rattle.fit_plan.proofs.Room.{has_room}
use Rattle.fit_device.proofs.ByWindows.{led}
use Rattle.fit_device.proofs.by_windows.fitrec_recover_begin.Goals as goal

run : (before after earlier later : Story) → before ≡ earlier → after ≡ later → Throughout (BothLeft before.now) before after
    → Throughout (BothLeft earlier.now) earlier later
run before after earlier later olds news is =
    subst (λ (story : Story). Throughout (BothLeft earlier.now) earlier story) news (subst (λ (story : Story). Throughout (BothLeft story.now) story after) olds is)

-- a plan has room for two syncs
pub returns-in-Err : goal.returns-in-Err
returns-in-Err c =
    absurd (has_room settling_calls 0 _ c.take_files-files.result c.settle-answer.new.disk c.take_files-files.ensures.none.0 c.take_files-files.ensures.none.1 (omega arith) (omega arith) c.settle-answer.ensures.takes
    (ap is_err c.in-Err.is))

pub returns-in-Ok : goal.returns-in-Ok
returns-in-Ok c =
    let old = c.take_files-files.ensures in
    let asked = c.ask.ensures in
    let left = c.after-files.ensures in
    let size : length (seen_of Journal (recovery_story c.ask.new.self)) ≡ c.args.recovery.now.journal_size =
    ap (λ (story : Story). length (seen_of Journal story)) (asked.story ∙ left.story) ∙ ap (λ (contents : Contents). length contents.in_journal) (c.settle-answer.ensures.same refl)
    ∙ ap (λ (story : Story). length (seen_of Journal story)) old.story ∙ sym c.args.recovery.now.journal_sized in
    record {
      planned = led c.args.recovery.now c.ask.new.self c.after-files.new.plan c.take_files-files.result c.settle-answer.new.disk old.since c.settle-answer.ensures.ran.ran.memory (asked.story ∙ left.story) left.planned;
      wanted = refl;
      asks = ((asked.asks, asked.window.3), asked.window.0, asked.window.1, omega (arith, asked.window.2, c.min-count.ensures, size));
      settled = subst (IsSettled _) (sym (asked.story ∙ left.story)) (subst (λ (story : Story). IsSettled (seen_in story.now) (plan_story c.settle-answer.new.disk)) old.story (c.in-Ok.ensures.settled refl));
      any_moment = run _ _ _ _ old.story (sym (asked.story ∙ left.story)) (c.settle-answer.ensures.any_moment refl);
    }
