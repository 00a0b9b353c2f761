use Rattle.std.proofs.Common.{◌≡◌, ℕ, true, [], ◌∷◌, inl, refl, sym, ap, ◌∙◌, subst, Err, arith}
use Rattle.fit_activity.specs.declared.recording.start.Start.{Start}
use Rattle.fit_activity.specs.declared.recording.start.Sport.{Sport}
use Rattle.fit_activity.specs.Rides.Recording.{Started}
use Rattle.fit_disk.proofs.Moments.{begins}
use Rattle.fit_disk.specs.State.{BothLeft}
use Rattle.fit_disk.specs.Story.{Story, seen_of}
use Rattle.fit_disk.specs.declared.disk.Which.TheVariants.{Data}
use Rattle.fit_journal.specs.Turn.{are_checked}
use Rattle.fit_recorder.specs.Calls.Counts.{start_bytes, start_calls}
use Rattle.fit_recorder.specs.Calls.Frozen.{state_in}
use Rattle.fit_recorder.specs.Private.State.{RecorderState}
use Rattle.fit_plan.specs.Plan.{plan_story, plan_since, plan_counts, room_in}
use Rattle.fit_recorder.specs.Calls.FaultCode.{fault_code}
use Rattle.fit_recorder.specs.Calls.Start.{InStart}
use Rattle.fit_recorder.specs.declared.fault.RecFault.{RecFault}
use Rattle.fit_recorder.specs.declared.fault.RecFault.TheVariants.{NotEmpty, Refused, Full, JournalFull, Device, Failed, NothingRecorded, Damaged}
use Rattle.fit_plan.proofs.Room.{has_room}
use Rattle.fit_device.specs.Answer.{code_of_fault}
use Rattle.fit_device.proofs.Leading.{leads_since}
use Rattle.fit_device.proofs.Lending.{sized_sound, sized_long, sized_is}
use Rattle.fit_journal.specs.Turn.{slots_left}
use Rattle.fit_recorder.specs.Private.State.{RecorderState}
use Rattle.fit_device.specs.Starts.{Starts}
use Rattle.fit_device.proofs.Stepping.{not_device, stands, on_ok}
use Rattle.fit_device.proofs.starting.fitrec_start.Goals as goal

in_start : (start : Start) (old earlier new later : Story) → old ≡ earlier → new ≡ later → InStart start old new → InStart start earlier later
in_start start old earlier new later olds news is =
    subst (λ (story : Story). InStart start earlier story) news (subst (λ (story : Story). InStart start story new) olds is)

-- a plan without calls leaves what could be left
no_start : (start : Start) (old new : Story) → new ≡ old → InStart start old new
no_start start old new same = record { found = old; before = begins (BothLeft old.now) old (λ contents left. left); after = inl same }

-- only one has the number of a data file that is not empty
is_not_empty : (fault : RecFault) (code : ℕ) → code ≡ code_of_fault fault → code ≡ fault_code NotEmpty → fault ≡ NotEmpty
is_not_empty NotEmpty code is not_empty = refl
is_not_empty (Refused refusal) code is not_empty = absurd (omega (arith, is, not_empty))
is_not_empty Device code is not_empty = absurd (omega (arith, is, not_empty))
is_not_empty Full code is not_empty = absurd (omega (arith, is, not_empty))
is_not_empty JournalFull code is not_empty = absurd (omega (arith, is, not_empty))
is_not_empty Failed code is not_empty = absurd (omega (arith, is, not_empty))
is_not_empty NothingRecorded code is not_empty = absurd (omega (arith, is, not_empty))
is_not_empty Damaged code is not_empty = absurd (omega (arith, is, not_empty))

pub over-requires : goal.over-requires
over-requires g c = (sized_sound g.before c.args.data_size, sized_long g.before c.args.data_size)

pub returns-in-Ok-clause-starts : goal.returns-in-Ok-clause-starts
returns-in-Ok-clause-starts g c = λ long _.
    let old = g.before.story in
    let new = c.put.new.self in
    let plan = c.put.new.plan in
    let recorder = c.begin.new.self in
    let start : Start = record { time = c.args.time; serial = c.args.serial; sport = c.in-Some.sport } in
    let put = c.put.ensures in
    let did = c.in-Ok.ensures in
    let files = c.over.ensures.story ∙ sized_is g.before c.args.data_size (sym long) in
    let here = ap plan_story c.idle-recorder.ensures.disk ∙ files in
    let leads = leads_since plan c.idle-recorder.result.files.disk c.begin.new.self.files.disk old _ _ (ap plan_since c.idle-recorder.ensures.disk ∙ c.over.ensures.begun.since ∙ files) did.ran.ran.memory (sym put.story) put.planned in
    let starts : Starts start old new plan 0 = record {
      well_formed = leads.well_formed;
      no_device = λ device. omega (arith, device);
      ok = λ _. (
        leads.ends,
        stands new plan recorder put (Started start ∷ []) (Started start ∷ []) did.ok.0 did.ok.1,
        ap slots_left (ap (λ (state : RecorderState). state.journal_slots) put.state ∙ did.begun.turns),
      );
      was_empty = λ _. ap (seen_of Data) (sym here) ∙ did.empty refl;
      refused = λ no. absurd (no refl);
      gone = λ no. absurd (no refl);
      not_empty = λ is. absurd (omega (arith, is));
      same = λ no. absurd (no refl);
      any_moment = in_start start _ _ _ _ here (sym put.story ∙ leads.ends) (did.any_moment refl);
    } in
    subst (λ (sport : Sport). Starts (record { time = c.args.time; serial = c.args.serial; sport = sport }) old new plan 0) c.in-Some.ensures.some starts

pub returns-in-Err-clause-starts : goal.returns-in-Err-clause-starts
returns-in-Err-clause-starts g c = λ long _.
    let old = g.before.story in
    let new = c.leave.new.self in
    let plan = c.clear-in-Err.new.self in
    let start : Start = record { time = c.args.time; serial = c.args.serial; sport = c.in-Some.sport } in
    let did = c.in-Err.ensures in
    let code = c.code_of_fault.result in
    let here = ap plan_story c.idle-recorder.ensures.disk ∙ c.over.ensures.story ∙ sized_is g.before c.args.data_size (sym long) in
    let fault = c.in-Err.fault in
    let is = c.code_of_fault.ensures in
    let leads = c.clear-in-Err.ensures.leads old in
    let never : fault ≡ Device → ⊥ =
    λ device. has_room start_calls start_bytes _ c.idle-recorder.result.files.disk c.begin.new.self.files.disk (ap plan_counts c.idle-recorder.ensures.disk ∙ c.over.ensures.begun.counts) (ap room_in c.idle-recorder.ensures.disk ∙ c.over.ensures.begun.room) (omega arith) (omega arith) did.ran.room (ap Err device) in
    let starts : Starts start old new plan code = record {
      well_formed = leads.well_formed;
      no_device = not_device fault code is never;
      ok = λ zero. absurd (on_ok {P = ⊥} (Err fault) code is zero tt);
      was_empty = λ zero. absurd (on_ok {P = ⊥} (Err fault) code is zero tt);
      refused = λ _. (fault, is, did.answers);
      gone = λ _. c.leave.ensures;
      not_empty = λ number empty. (did.handed_back.not_empty refl (is_not_empty fault code is number)).0 (ap (seen_of Data) here ∙ empty);
      same = λ _. (c.clear-in-Err.ensures.none, sym leads.ends);
      any_moment = no_start start _ _ (sym leads.ends);
    } in
    subst (λ (sport : Sport). Starts (record { time = c.args.time; serial = c.args.serial; sport = sport }) old new plan code) c.in-Some.ensures.some starts

pub returns-in-Ok-clause-checked : goal.returns-in-Ok-clause-checked
returns-in-Ok-clause-checked g c = λ _. ap (λ (state : RecorderState). are_checked state.journal_slots) c.put.ensures.state ∙ ap are_checked c.in-Ok.ensures.begun.turns

pub returns-in-Err-clause-checked : goal.returns-in-Err-clause-checked
returns-in-Err-clause-checked g c = λ zero.
    on_ok {P = are_checked (state_in c.leave.new.self.recorder).journal_slots ≡ true} (Err c.in-Err.fault) c.code_of_fault.result c.code_of_fault.ensures zero tt
