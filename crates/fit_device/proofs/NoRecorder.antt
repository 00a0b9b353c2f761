-- A handle that is none of a recorder: each call leaves it as it is, and plans nothing.
use Rattle.std.proofs.Common.{◌≡◌, ℕ, refl, sym, ap, subst, arith}
use Rattle.fit_activity.specs.declared.recording.entry.Entry.{Entry}
use Rattle.fit_device.specs.Answer.{no_recorder}
use Rattle.fit_device.specs.Handle.{handle_story, IsRecorder, HandleNeverFills}
use Rattle.fit_device.specs.Planned.{Leads}
use Rattle.fit_device.specs.Steps.{PlansStep, HandsEntry, CommitsEntries, EndsRide}
use Rattle.fit_device.specs.declared.handle.Handle.{Handle}
use Rattle.fit_device.specs.declared.plan.DevicePlan.{DevicePlan}
use Rattle.fit_device.proofs.Leading.{leads_for}
use Rattle.fit_disk.specs.Story.{Story}

module _ (old new : Handle) (plan : DevicePlan) (no : IsRecorder old → ⊥) (same : new ≡ old) (leads : (story : Story) → Leads plan story story) where
  steps : PlansStep old new plan no_recorder
  steps = record {
    planned = leads_for plan _ _ _ _ refl (ap handle_story (sym same)) (leads (handle_story old));
    none = λ _. (refl, same);
    known = λ is. absurd (no is);
    refused = λ is. absurd (no is);
    no_device = λ device. omega (arith, device);
  }

  pub hands : (e : Entry) → HandsEntry e old new plan no_recorder
  hands e = record {
    steps = steps;
    answers = λ list handed. absurd (no handed.recorder);
    ok = λ list committed held. absurd (no held.recorder);
    never_fills = subst HandleNeverFills (sym same);
    any_moment = λ list committed held. absurd (no held.recorder);
  }

  pub commits : CommitsEntries old new plan no_recorder
  commits = record {
    steps = steps;
    answers = λ list handed. absurd (no handed.recorder);
    ok = λ list committed held. absurd (no held.recorder);
    never_fills = subst HandleNeverFills (sym same);
    not_full = λ list handed. absurd (no handed.recorder);
    any_moment = λ list committed held. absurd (no held.recorder);
  }

  pub stops : (time : ℕ) → EndsRide time old new plan no_recorder
  stops time = record {
    steps = steps;
    answers = λ list handed. absurd (no handed.recorder);
    ended = λ list handed. absurd (no handed.recorder);
    finished = λ list committed held. absurd (no held.recorder);
    any_moment = λ list committed held. absurd (no held.recorder);
  }
