use Rattle.fit_device.proofs.NoRecorder.{stops}
use Rattle.fit_device.specs.Handle.{IsRecorder}
use Rattle.std.proofs.Common.{◌⊎◌, ◌++◌, ◌∷◌, [], refl, sym, subst, arith}
use Rattle.fit_activity.specs.declared.recording.entry.Entry.TheVariants.{Stop}
use Rattle.fit_activity.specs.Rides.Recording.{Added}
use Rattle.fit_disk.specs.State.{Contents}
use Rattle.fit_disk.specs.Story.{Story}
use Rattle.fit_recorder.specs.Files.Body.{StandsFor}
use Rattle.fit_recorder.specs.Files.Finished.{IsFinished}
use Rattle.fit_recorder.specs.Calls.Counts.{stop_bytes, stop_calls}
use Rattle.fit_device.proofs.Stepping.{never_device, still_going, stood, was_going, was_handed, is_handed, steps, throughout, on_ok}
use Rattle.fit_device.proofs.starting.fitrec_stop.Goals as goal

pub returns : goal.returns
returns c =
    let old = c.args.handle.now in
    let new = c.put.new.self in
    let plan = c.put.new.plan in
    let before = c.take.new.recorder in
    let after = c.stop-answer.new.self in
    let did = c.stop-answer.ensures in
    let taken = c.if-not-take.ensures.taken refl in
    let put = c.put.ensures in
    record {
      steps = steps new plan after put old before taken c.stop-answer.result c.code_of.result c.code_of.ensures did.after (never_device old before taken stop_calls stop_bytes _ after (omega arith) (omega arith) did.ran.room) did.ran.ran.memory;
      answers = λ list handed.
          (c.stop-answer.result, (did.answers list (was_handed old before taken list handed) (was_going old before taken list handed), c.code_of.ensures));
      ended = λ list handed zero.
          let went = on_ok c.stop-answer.result c.code_of.result c.code_of.ensures zero (did.ok list (was_handed old before taken list handed)) in
          is_handed new plan after put (list ++ Added (Stop c.args.time) ∷ []) went.0 went.1.0;
      finished = λ list committed held zero.
          let went = on_ok c.stop-answer.result c.code_of.result c.code_of.ensures zero (did.finished refl list committed (stood old before taken list committed held)) in
          subst (λ (story : Story). IsFinished (list ++ Added (Stop c.args.time) ∷ []) story) (sym put.story) went;
      any_moment = λ list committed held.
          throughout new plan after put old before taken (λ (contents : Contents). StandsFor committed contents ⊎ StandsFor (list ++ Added (Stop c.args.time) ∷ []) contents)
          (did.any_moment refl list committed (stood old before taken list committed held));
    }

pub returns-then-not-take : goal.returns-then-not-take
returns-then-not-take c =
    let no : IsRecorder c.args.handle.now → ⊥ = λ is. let clash = c.if-not-take.ensures.was.1 is in absurd cc in
    stops _ _ c.clear.new.self no (c.if-not-take.ensures.none refl) c.clear.ensures.leads c.args.time

pub put-requires-clause-going : goal.put-requires-clause-going
put-requires-clause-going c =
    let before = c.take.new.recorder in
    let after = c.stop-answer.new.self in
    still_going c.stop-answer.result before after c.stop-answer.ensures.after (c.if-not-take.ensures.goes_on refl).1
    (never_device c.args.handle.now before (c.if-not-take.ensures.taken refl) stop_calls stop_bytes _ after (omega arith) (omega arith) c.stop-answer.ensures.ran.room)
