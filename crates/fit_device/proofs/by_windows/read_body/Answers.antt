use Rattle.std.proofs.Common.{◌≡◌, ◌≤◌, inl, inr, refl, sym, ap, ◌∙◌, subst, arith, Result, Ok, Err}
use Rattle.std.specs.Prelude.{OnOk}
use Rattle.fit_activity.specs.declared.activity.Summary.{Summary}
use Rattle.fit_disk.specs.Story.{Story, seen_of}
use Rattle.fit_device.specs.Answer.{IsNumberOf}
use Rattle.fit_disk.specs.declared.disk.Which.TheVariants.{Data, Journal}
use Rattle.fit_recorder.specs.Files.Committed.{HasCounted}
use Rattle.fit_recorder.specs.declared.fault.RecFault.{RecFault}
use Rattle.fit_disk.specs.State.{seen_in}
use Rattle.fit_recorder.specs.Calls.Counts.{closing_bytes, rebuilding_calls}
use Rattle.fit_recorder.specs.Calls.Recovery.{RecoveryAnswers}
use Rattle.fit_recorder.specs.declared.fault.RecFault.TheVariants.{Device}
use Rattle.fit_plan.specs.Plan.{plan_story}
use Rattle.fit_device.proofs.ByWindows.{led, answers_for, rebuilds_for, counted_for, moved, not_short, has_room, never_wants, never_zero, refuses_quietly, usual_number}
use Rattle.fit_device.proofs.Stepping.{not_device}
use Rattle.fit_device.proofs.by_windows.read_body.Goals as goal

pub returns-in-None : goal.returns-in-None
returns-in-None c =
    let old = c.take_reading.ensures in
    let asked = c.ask_for_body.ensures in
    let left = c.after-files.ensures in
    let more = c.in-None.ensures.more in
    let full : c.args.handle.now.count ≤ c.args.handle.now.filled = not_short c.args.handle.now c.requires.full in
    let same = (asked.story ∙ left.story) ∙ ap plan_story more.0 ∙ old.story in
    record {
      planned = led c.args.handle.now c.ask_for_body.new.self c.after-files.new.plan c.take_reading.new.files c.go_on-answer.new.disk (old.since) c.go_on-answer.ensures.memory (asked.story ∙ left.story) left.planned;
      none = λ no. absurd (no c.requires.asks);
      asks = λ _ _. record { body = asked.asks; moves = λ _. moved c.args.handle.now _ _ c.given.result.now _ more.1 (c.given.ensures.long ∙ old.window.0) old.placed asked.at full };
      ended = λ no. absurd (no refl);
      same = λ _. same;
      answers = λ _. inl refl;
      device = λ device. absurd (omega (arith, device));
      short = λ _ short. absurd (c.requires.full short);
      checked = λ zero. absurd (omega (arith, zero));
      any_moment = λ _. rebuilds_for _ _ _ _ (old.story) (sym (asked.story ∙ left.story)) (c.go_on-answer.ensures.any_moment refl);
    }

pub returns-in-Ok : goal.returns-in-Ok
returns-in-Ok c =
    let old = c.take_reading.ensures in
    let put = c.put_files.ensures in
    let left = c.after-files.ensures in
    let decided = subst (RecoveryAnswers (seen_in (plan_story c.take_reading.new.files).now) (plan_story c.go_on-answer.new.disk)) c.in-Ok.is (c.in-Some.ensures.decides refl) in
    record {
      planned = led c.args.handle.now c.put_files.new.self c.after-files.new.plan c.take_reading.new.files c.go_on-answer.new.disk (old.since) c.go_on-answer.ensures.memory (put.story ∙ left.story) left.planned;
      none = λ no. absurd (no c.requires.asks);
      asks = λ _ wants. absurd (omega (arith, wants));
      ended = λ _. put.ended;
      same = λ no. absurd (no refl);
      answers = λ _. inr (Ok c.in-Ok.field-0, refl, answers_for (Ok c.in-Ok.field-0) _ _ _ _ (old.story) (sym (put.story ∙ left.story)) decided);
      device = λ device. absurd (omega (arith, device));
      short = λ _ short. absurd (c.requires.full short);
      checked = λ _. counted_for _ _ _ _ old.story (sym (put.story ∙ left.story)) (subst (λ (answer : Result Summary RecFault). OnOk answer (HasCounted (seen_of Journal (plan_story c.take_reading.new.files)) (seen_of Data (plan_story c.go_on-answer.new.disk)))) c.in-Ok.is (c.in-Some.ensures.checked refl));
      any_moment = λ _. rebuilds_for _ _ _ _ (old.story) (sym (put.story ∙ left.story)) (c.go_on-answer.ensures.any_moment refl);
    }

pub returns-in-Err : goal.returns-in-Err
returns-in-Err c =
    let old = c.take_reading.ensures in
    let put = c.put_files.ensures in
    let left = c.after-files.ensures in
    let room = has_room rebuilding_calls closing_bytes c.take_reading.new.files old.none.0 old.none.1 (omega arith) (omega arith) in
    let decided = subst (RecoveryAnswers (seen_in (plan_story c.take_reading.new.files).now) (plan_story c.go_on-answer.new.disk)) c.in-Err.is (c.in-Some.ensures.decides refl) in
    let here = old.story in
    let never : c.in-Err.fault ≡ Device → ⊥ = λ device. c.in-Some.ensures.no_device room (c.in-Err.is ∙ ap Err device) in
    let quiet = refuses_quietly c.in-Err.fault _ _ _ decided never (c.go_on-answer.ensures.any_moment refl) in
    record {
      planned = led c.args.handle.now c.put_files.new.self c.after-files.new.plan c.take_reading.new.files c.go_on-answer.new.disk (old.since) c.go_on-answer.ensures.memory (put.story ∙ left.story) left.planned;
      none = λ no. absurd (no c.requires.asks);
      ended = λ _. put.ended;
      same = λ _. (put.story ∙ left.story) ∙ quiet ∙ here;
      asks = λ _ wants. absurd (never_wants c.in-Err.fault c.code_of_fault.result c.code_of_fault.ensures wants);
      answers = λ _. inr (Err c.in-Err.fault, subst (λ (story : Story). IsNumberOf (seen_in story.now) c.in-Err.fault c.code_of_fault.result) here (usual_number _ _ _ _ _ old.reads.1.committed (λ none. subst (λ (fault : RecFault). RecoveryAnswers (seen_in (plan_story c.take_reading.new.files).now) (plan_story c.go_on-answer.new.disk) (Err fault)) none decided) c.code_of_fault.ensures), answers_for (Err c.in-Err.fault) _ _ _ _ (old.story) (sym (put.story ∙ left.story)) decided);
      device = λ device. absurd (not_device c.in-Err.fault c.code_of_fault.result c.code_of_fault.ensures never device);
      short = λ _ short. absurd (c.requires.full short);
      checked = λ zero. absurd (never_zero c.in-Err.fault c.code_of_fault.result c.code_of_fault.ensures zero);
      any_moment = λ _. rebuilds_for _ _ _ _ (old.story) (sym (put.story ∙ left.story)) (c.go_on-answer.ensures.any_moment refl);
    }
