use Rattle.std.proofs.Common.{sym, ap, ◌∙◌, refl}
use Rattle.std.proofs.Math.Logic.{∥∥₁_map}
use Rattle.fit_device.specs.Handle.{IsRecorder}
use Rattle.fit_device.specs.Sealed.{GoesOnIn}
use Rattle.fit_plan.specs.Plan.{plan_story}
use Rattle.fit_recorder.specs.Calls.Frozen.{state_in, has_failed_in}
use Rattle.fit_device.proofs.Stepping.{goes_on_at}
use Rattle.fit_device.proofs.handle.Handle.take.Goals as goal

pub invariant_of-reveal : goal.invariant_of-reveal
invariant_of-reveal c =
    let old = c.args.self.now in
    let sealed : IsRecorder old = c.if-not-is_recorder.ensures.0 refl in
    let same = c.take_files-files.ensures.recorder in
    let thawed = c.if-not-thaw.ensures in
    record {
      goes_on = ∥∥₁_map (old.believed sealed) (λ (believed : GoesOnIn old.recorder old.notes.story). (
        goes_on_at _ _ _ _ _ _
            (sym (thawed.state refl ∙ ap state_in same))
            (sym (thawed.failed refl ∙ ap has_failed_in same))
            (sym (ap plan_story (thawed.disk ∙ c.swap_disk.ensures.disk) ∙ c.take_files-files.ensures.story))
            believed.goes_on,
        thawed.failed refl ∙ ap has_failed_in same ∙ believed.going,
      ));
    }
