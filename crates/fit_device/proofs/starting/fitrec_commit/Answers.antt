use Rattle.fit_device.proofs.NoRecorder.{commits}
use Rattle.fit_device.specs.Handle.{IsRecorder}
use Rattle.std.proofs.Common.{◌⊎◌, refl, ap, subst, arith}
use Rattle.fit_disk.specs.State.{Contents}
use Rattle.fit_journal.specs.declared.slots.Slots.{Slots}
use Rattle.fit_recorder.specs.Calls.Answers.{CommitAnswers}
use Rattle.fit_recorder.specs.Files.Body.{StandsFor}
use Rattle.fit_recorder.specs.Private.State.{RecorderState}
use Rattle.fit_recorder.specs.Calls.Counts.{commit_bytes, most_commit_calls}
use Rattle.fit_device.proofs.Stepping.{never_device, still_going, stood, was_going, was_handed, stands, steps, throughout, never_fills, on_ok}
use Rattle.fit_device.proofs.NeverFull.{after_commit, never_full}
use Rattle.fit_device.specs.Handle.{HandleWasHanded}
use Rattle.fit_activity.specs.Rides.Recording.{Recorded}
use Rattle.fit_journal.specs.Frozen.{slots_in}
use Rattle.fit_recorder.specs.declared.fault.RecFault.TheVariants.{Device}
use Rattle.std.specs.Prelude.{IsErrOf, List}
use Rattle.fit_device.proofs.starting.fitrec_commit.Goals as goal

pub returns : goal.returns
returns c =
    let old = c.args.handle.now in
    let new = c.put.new.self in
    let plan = c.put.new.plan in
    let before = c.take.new.recorder in
    let after = c.commit-answer.new.self in
    let did = c.commit-answer.ensures in
    let taken = c.if-not-take.ensures.taken refl in
    let put = c.put.ensures in
    let never : IsErrOf c.commit-answer.result Device → ⊥ =
    never_device old before taken most_commit_calls commit_bytes _ after (omega arith) (omega arith) did.ran.room in
    let answers : (list : List Recorded) → HandleWasHanded old list → CommitAnswers list (slots_in old.recorder.journal) c.commit-answer.result = λ list handed.
    subst (λ (slots : Slots). CommitAnswers list slots c.commit-answer.result) (ap (λ (state : RecorderState). state.journal_slots) taken.state)
    (did.answers list (was_handed old before taken list handed) (was_going old before taken list handed)) in
    record {
      steps = steps new plan after put old before taken c.commit-answer.result c.code_of.result c.code_of.ensures did.after never did.ran.ran.memory;
      answers = λ list handed. (c.commit-answer.result, (answers list handed, c.code_of.ensures));
      ok = λ list committed held zero.
          stands new plan after put list list (on_ok c.commit-answer.result c.code_of.result c.code_of.ensures zero did.after.going)
          ((on_ok c.commit-answer.result c.code_of.result c.code_of.ensures zero did.ok).stands list committed (stood old before taken list committed held));
      never_fills = never_fills new plan after put old before taken (after_commit c.commit-answer.result _ _ before after did.after never did.slots);
      not_full = λ list handed fills.
          never_full c.commit-answer.result (slots_in old.recorder.journal) list c.code_of.result (answers list handed) c.code_of.ensures fills;
      any_moment = λ list committed held.
          throughout new plan after put old before taken (λ (contents : Contents). StandsFor committed contents ⊎ StandsFor list contents)
          (did.any_moment refl list committed (stood old before taken list committed held));
    }

pub returns-then-not-take : goal.returns-then-not-take
returns-then-not-take c =
    let no : IsRecorder c.args.handle.now → ⊥ = λ is. let clash = c.if-not-take.ensures.was.1 is in absurd cc in
    commits _ _ c.clear.new.self no (c.if-not-take.ensures.none refl) c.clear.ensures.leads

pub put-requires-clause-going : goal.put-requires-clause-going
put-requires-clause-going c =
    let before = c.take.new.recorder in
    let after = c.commit-answer.new.self in
    still_going c.commit-answer.result before after c.commit-answer.ensures.after (c.if-not-take.ensures.goes_on refl).1
    (never_device c.args.handle.now before (c.if-not-take.ensures.taken refl) most_commit_calls commit_bytes _ after (omega arith) (omega arith) c.commit-answer.ensures.ran.room)
