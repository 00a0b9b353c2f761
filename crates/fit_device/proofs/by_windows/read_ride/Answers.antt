use Rattle.std.proofs.Common.{⊎_elim, ◌≡◌, ◌≤◌, inl, inr, refl, sym, ap, ◌∙◌, subst, arith, Result, Ok, Err}
use Rattle.std.specs.Prelude.{OnOk, Some}
use Rattle.fit_disk.specs.declared.disk.Which.TheVariants.{Data, Journal}
use Rattle.fit_recorder.specs.Files.Committed.{HasCounted}
use Rattle.fit_plan.specs.Plan.{plan_story}
use Rattle.fit_recorder.specs.Calls.Recovery.{unchanged}
use Rattle.fit_recorder.specs.Calls.Windows.{TakesUpOn, MayTakeUpOn}
use Rattle.fit_recorder.specs.declared.fault.RecFault.{RecFault}
use Rattle.fit_recorder.specs.declared.fault.RecFault.TheVariants.{Device}
use Rattle.fit_recorder.specs.declared.resuming.FoundRide.{FoundRide}
use Rattle.fit_device.proofs.ByWindows.{led, rebuilds_for, refused_for, taken_for, counted_for, moved, not_short, has_room, never_wants, never_zero, usual_number}
use Rattle.fit_disk.specs.State.{seen_in}
use Rattle.fit_disk.specs.Story.{Story, seen_of}
use Rattle.fit_recorder.specs.Calls.Ride.{TakesUp}
use Rattle.fit_device.proofs.Leading.{leads_since}
use Rattle.fit_device.specs.Answer.{IsNumberOf}
use Rattle.fit_recorder.specs.Calls.Resume.{IsRefusedFor}
use Rattle.fit_device.specs.Windowed.{recovery_story}
use Rattle.fit_device.proofs.Stepping.{not_device}
use Rattle.fit_device.proofs.by_windows.read_ride.Goals as goal

pub returns-in-None : goal.returns-in-None
returns-in-None c handle =
    let old = c.take_reading.ensures in
    let asked = c.ask_for_body.ensures in
    let left = c.after-files.ensures in
    let same = (asked.story ∙ left.story) ∙ (c.in-None.ensures.decides refl).0 ∙ old.story in
    let more = c.in-None.ensures.more in
    let full : c.args.handle.now.count ≤ c.args.handle.now.filled = not_short c.args.handle.now c.requires.full in
    let planned = led c.args.handle.now c.ask_for_body.new.self c.after-files.new.plan c.take_reading.new.files c.take_up_on-answer.new.disk (old.since) c.take_up_on-answer.ensures.memory (asked.story ∙ left.story) left.planned in
    record {
      planned = (λ zero. absurd (omega (arith, zero)), λ _. planned);
      none = λ no. absurd (no c.requires.asks);
      asks = λ _ _. record { body = asked.asks; moves = λ _. moved c.args.handle.now _ _ c.given.result.now _ more.1 (c.given.ensures.long ∙ old.window.0) old.placed asked.at full };
      ended = λ no. absurd (no refl);
      same = λ _. (refl, same);
      answers = λ _. inl refl;
      device = λ device. absurd (omega (arith, device));
      short = λ _ short. absurd (c.requires.full short);
      checked = λ zero. absurd (omega (arith, zero));
      any_moment = λ _. unchanged (sym planned.ends ∙ same);
    }

pub returns-in-Ok : goal.returns-in-Ok
returns-in-Ok c =
    let old = c.take_reading.ensures in
    let left = c.after-files.ensures in
    let here = old.story in
    let did = subst (λ (answer : Result FoundRide RecFault). TakesUpOn (plan_story c.take_reading.new.files) (plan_story c.take_up_on-answer.new.disk) c.take_up_on-answer.new.self (Some answer)) c.in-Ok.is (c.in-Some.ensures.decides refl) in
    record {
      goes_on = subst (λ (answer : Result FoundRide RecFault). MayTakeUpOn c.take_up_on-answer.new.self (Some answer)) c.in-Ok.is c.in-Some.ensures.anywhere;
      planned = leads_since c.after-files.new.plan c.take_reading.new.files c.take_up_on-answer.new.disk _ _ _ (old.since) c.take_up_on-answer.ensures.memory (sym left.story) left.planned;
      ended = old.ended;
      taken = subst (λ (story : Story). TakesUp (seen_in (recovery_story c.args.handle.now).now) story (Ok c.in-Ok.ride)) (sym left.story) (taken_for c.in-Ok.ride _ _ (plan_story c.take_up_on-answer.new.disk) here did.0);
      checked = counted_for _ _ _ _ here (sym left.story) (subst (λ (answer : Result FoundRide RecFault). OnOk answer (HasCounted (seen_of Journal (plan_story c.take_reading.new.files)) (seen_of Data (plan_story c.take_up_on-answer.new.disk)))) c.in-Ok.is (c.in-Some.ensures.checked refl));
      any_moment = rebuilds_for _ _ _ _ here (sym left.story) (c.take_up_on-answer.ensures.any_moment refl);
    }

pub returns-in-Err : goal.returns-in-Err
returns-in-Err c handle =
    let old = c.take_reading.ensures in
    let put = c.put_files.ensures in
    let left = c.after-files.ensures in
    let here = old.story in
    let fault = c.in-Err.fault in
    let code = c.code_of_fault.ensures in
    let room = has_room 2 0 c.take_reading.new.files old.none.0 old.none.1 (omega arith) (omega arith) in
    let never : fault ≡ Device → ⊥ = λ device. c.in-Some.ensures.no_device room (c.in-Err.is ∙ ap Err device) in
    let did = subst (λ (answer : Result FoundRide RecFault). TakesUpOn (plan_story c.take_reading.new.files) (plan_story c.take_up_on-answer.new.disk) c.take_up_on-answer.new.self (Some answer)) c.in-Err.is (c.in-Some.ensures.decides refl) in
    let planned = led c.args.handle.now c.put_files.new.self c.after-files.new.plan c.take_reading.new.files c.take_up_on-answer.new.disk (old.since) c.take_up_on-answer.ensures.memory (put.story ∙ left.story) left.planned in
    record {
      planned = (λ zero. absurd (never_zero fault c.code_of_fault.result code zero), λ _. planned);
      none = λ no. absurd (no c.requires.asks);
      ended = λ _. put.ended;
      same = λ _. (refl, ⊎_elim (λ device. absurd (never device)) (λ same. (put.story ∙ left.story) ∙ same ∙ here) did.1);
      asks = λ _ wants. absurd (never_wants fault c.code_of_fault.result code wants);
      answers = λ _. inr (inr (fault, subst (λ (story : Story). IsNumberOf (seen_in story.now) fault c.code_of_fault.result) here (usual_number _ _ _ _ _ old.reads.1.committed (λ none. subst (λ (other : RecFault). IsRefusedFor (seen_in (plan_story c.take_reading.new.files).now) other) none did.0) code), refused_for fault _ _ here did.0));
      device = λ device. absurd (not_device fault c.code_of_fault.result code never device);
      short = λ _ short. absurd (c.requires.full short);
      checked = λ zero. absurd (never_zero fault c.code_of_fault.result code zero);
      any_moment = λ _. rebuilds_for _ _ _ _ here (sym (put.story ∙ left.story) ∙ planned.ends) (c.take_up_on-answer.ensures.any_moment refl);
    }
