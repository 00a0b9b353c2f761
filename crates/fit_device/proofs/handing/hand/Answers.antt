use Rattle.fit_device.proofs.NoRecorder.{hands}
use Rattle.fit_device.specs.Handle.{IsRecorder}
use Rattle.std.proofs.Common.{refl, ap, ◌∙◌, subst, ◌++◌, ◌∷◌, [], arith}
use Rattle.fit_activity.specs.Rides.Recording.{Added}
use Rattle.fit_journal.specs.Turn.{slots_left}
use Rattle.fit_recorder.specs.Calls.Answers.{HandAnswers}
use Rattle.fit_recorder.specs.Files.Body.{StandsFor}
use Rattle.fit_recorder.specs.Private.State.{RecorderState}
use Rattle.fit_recorder.specs.Files.Limits.{page_size}
use Rattle.fit_recorder.specs.Calls.Counts.{entry_calls}
use Rattle.fit_device.proofs.Stepping.{never_device, still_going, stood, was_going, was_handed, stands, steps, throughout, never_fills, on_ok}
use Rattle.fit_device.proofs.handing.hand.Goals as goal

pub returns-clause-hands : goal.returns-clause-hands
returns-clause-hands c =
    let old = c.args.handle.now in
    let new = c.put.new.self in
    let plan = c.put.new.plan in
    let before = c.take.new.recorder in
    let after = c.hand_with-answer.new.self in
    let did = c.hand_with-answer.ensures in
    let taken = c.if-not-take.ensures.taken refl in
    let put = c.put.ensures in
    record {
      steps = steps new plan after put old before taken c.hand_with-answer.result c.code_of.result c.code_of.ensures did.after (never_device old before taken entry_calls page_size _ after (omega arith) (omega arith) did.ran.room) did.ran.ran.memory;
      answers = λ list handed. (
        c.hand_with-answer.result,
        (
          subst (λ len. HandAnswers list len c.args.entry.now c.hand_with-answer.result) (ap (λ (state : RecorderState). state.len) taken.state)
              (did.answers list (was_handed old before taken list handed) (was_going old before taken list handed)),
          c.code_of.ensures,
        ),
      );
      ok = λ list committed held zero.
          stands new plan after put (list ++ Added c.args.entry.now ∷ []) committed (on_ok c.hand_with-answer.result c.code_of.result c.code_of.ensures zero did.after.going)
          ((on_ok c.hand_with-answer.result c.code_of.result c.code_of.ensures zero did.ok).stands list committed (stood old before taken list committed held));
      never_fills = never_fills new plan after put old before taken (λ none. ap slots_left did.journal.slots ∙ none);
      any_moment = λ list committed held.
          throughout new plan after put old before taken (StandsFor committed) (did.any_moment refl list committed (stood old before taken list committed held));
    }

pub returns-then-not-take-clause-hands : goal.returns-then-not-take-clause-hands
returns-then-not-take-clause-hands c =
    let no : IsRecorder c.args.handle.now → ⊥ = λ is. let clash = c.if-not-take.ensures.was.1 is in absurd cc in
    hands _ _ c.clear.new.self no (c.if-not-take.ensures.none refl) c.clear.ensures.leads c.args.entry.now

pub put-requires-clause-going : goal.put-requires-clause-going
put-requires-clause-going c =
    let before = c.take.new.recorder in
    let after = c.hand_with-answer.new.self in
    still_going c.hand_with-answer.result before after c.hand_with-answer.ensures.after (c.if-not-take.ensures.goes_on refl).1
    (never_device c.args.handle.now before (c.if-not-take.ensures.taken refl) entry_calls page_size _ after (omega arith) (omega arith) c.hand_with-answer.ensures.ran.room)

pub returns-clause-times : goal.returns-clause-times
returns-clause-times c plain list handed zero =
    let old = c.args.handle.now in
    let before = c.take.new.recorder in
    let taken = c.if-not-take.ensures.taken refl in
    let put = c.put.ensures in
    let here = ap (λ (state : RecorderState). state.len) taken.state in
    let after = ap (λ (state : RecorderState). state.len) put.state in
    let more = on_ok c.hand_with-answer.result c.code_of.result c.code_of.ensures zero (c.hand_with-answer.ensures.times plain list (was_handed old before taken list handed)) in
    omega (arith, here, after, more)
