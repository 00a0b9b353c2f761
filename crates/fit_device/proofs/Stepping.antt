-- A step of the recorder in a handle: what it was taken out as, and what it was put back as.
use Rattle.std.proofs.Common.{⊎_elim, ◌≡◌, ℕ, Bool, true, false, List, sym, ap, ◌∙◌, subst, arith, Result, Ok, Err}
use Rattle.std.specs.Prelude.{◌≤◌, None, OnOk, IsErrOf, refl}
use Rattle.fit_activity.specs.Rides.Recording.{Recorded}
use Rattle.fit_activity.specs.Rides.RunningTotals.{AreTotals}
use Rattle.fit_device.specs.declared.handle.Handle.{Handle}
use Rattle.fit_device.specs.declared.plan.DevicePlan.{DevicePlan}
use Rattle.fit_device.specs.Answer.{code_of, code_of_fault}
use Rattle.fit_device.specs.Handle.{handle_story, HandleNeverFills, HandleWasHanded, HandleStands}
use Rattle.fit_device.proofs.Leading.{leads_since}
use Rattle.fit_device.specs.Steps.{PlansStep, IsSame}
use Rattle.fit_device.specs.Taken.{IsTaken, IsPut}
use Rattle.fit_disk.specs.Runs.{TakesRoom}
use Rattle.fit_disk.specs.State.{Contents}
use Rattle.fit_disk.specs.Story.{Story, Throughout}
use Rattle.fit_disk.specs.Numbers.{numbers_of}
use Rattle.fit_plan.proofs.Room.{has_room}
use Rattle.fit_plan.specs.declared.plan.Plan.{Plan}
use Rattle.fit_plan.specs.Plan.{plan_story, plan_since, plan_log, most_planned_calls, most_planned_bytes}
use Rattle.fit_recorder.specs.declared.fault.RecFault.{RecFault}
use Rattle.fit_recorder.specs.declared.fault.RecFault.TheVariants.{NotEmpty, Refused, Full, JournalFull, Device, Failed, NothingRecorded, Damaged}
use Rattle.fit_recorder.specs.declared.recorder.Recorder.{Recorder}
use Rattle.fit_recorder.specs.Calls.FaultCode.{fault_code}
use Rattle.fit_recorder.specs.Calls.Frozen.{GoesOnAt}
use Rattle.fit_recorder.specs.Calls.After.{AfterCall}
use Rattle.fit_journal.specs.Turn.{slots_left}
use Rattle.fit_recorder.specs.Calls.Recorder.{StandsAt, state_of, has_failed, disk_of, journal_slots}
use Rattle.fit_recorder.specs.Private.State.{RecorderState, IsAt}

-- the same of equal numbers
pub goes_on_at : (state other : RecorderState) (failed too : Bool) (story later : Story) → state ≡ other → failed ≡ too → story ≡ later
    → GoesOnAt true state failed story → GoesOnAt true other too later
goes_on_at state other failed too story later states faileds stories goes_on =
    subst (λ s. GoesOnAt true other too s) stories (subst (λ f. GoesOnAt true other f story) faileds (subst (λ m. GoesOnAt true m failed story) states goes_on))

pub is_at : (list committed : List Recorded) (state other : RecorderState) (story later : Story) → state ≡ other → story ≡ later
    → IsAt true state story list committed → IsAt true other later list committed
is_at list committed state other story later states stories at =
    subst (λ s. IsAt true other s list committed) stories (subst (λ m. IsAt true m story list committed) states at)

-- a call of a recorder that goes on leaves one that does, unless the device fails
pub still_going : (result : Result (Unit {0}) RecFault) (before after : Recorder Plan) → AfterCall true plan_story result before after
    → has_failed before ≡ false → (IsErrOf result Device → ⊥) → has_failed after ≡ false
still_going (Ok _) before after called going never = called.going
still_going (Err fault) before after called going never =
    ⊎_elim (λ (device : fault ≡ Device). absurd (never (ap Err device))) (λ (same : after ≡ before). ap has_failed same ∙ going) called.same

-- only an Ok has the number 0
pub on_ok : {P : Type 0} (result : Result (Unit {0}) RecFault) (code : ℕ) → code ≡ code_of result → code ≡ 0 → OnOk result P → P
on_ok (Ok _) code is zero holds = holds
on_ok (Err NotEmpty) code is zero holds = let no : ⊥ = omega (arith, is, zero) in absurd no
on_ok (Err (Refused refusal)) code is zero holds = let no : ⊥ = omega (arith, is, zero) in absurd no
on_ok (Err Full) code is zero holds = let no : ⊥ = omega (arith, is, zero) in absurd no
on_ok (Err JournalFull) code is zero holds = let no : ⊥ = omega (arith, is, zero) in absurd no
on_ok (Err Device) code is zero holds = let no : ⊥ = omega (arith, is, zero) in absurd no
on_ok (Err Failed) code is zero holds = let no : ⊥ = omega (arith, is, zero) in absurd no
on_ok (Err NothingRecorded) code is zero holds = let no : ⊥ = omega (arith, is, zero) in absurd no
on_ok (Err Damaged) code is zero holds = let no : ⊥ = omega (arith, is, zero) in absurd no

-- only this fault has its number
pub not_device : (fault : RecFault) (code : ℕ) → code ≡ code_of_fault fault → (fault ≡ Device → ⊥) → code ≡ fault_code Device → ⊥
not_device NotEmpty code is never device = omega (arith, is, device)
not_device (Refused refusal) code is never device = omega (arith, is, device)
not_device Full code is never device = omega (arith, is, device)
not_device JournalFull code is never device = omega (arith, is, device)
not_device Device code is never device = never refl
not_device Failed code is never device = omega (arith, is, device)
not_device NothingRecorded code is never device = omega (arith, is, device)
not_device Damaged code is never device = omega (arith, is, device)

module _ (old : Handle) (before : Recorder Plan) (taken : IsTaken old before) where
  pub never_device : (most bytes : ℕ) (Fails : Type 0) (after : Recorder Plan) → most ≤ most_planned_calls → bytes ≤ most_planned_bytes
      → TakesRoom most bytes Fails (plan_log (disk_of before)) (plan_log (disk_of after)) → Fails → ⊥
  never_device most bytes Fails after = has_room most bytes Fails (disk_of before) (disk_of after) taken.counts taken.room

  pub stood : (list committed : List Recorded) → HandleStands old list committed → StandsAt true plan_story before list committed
  stood list committed stands = is_at list committed _ _ _ _ (sym taken.state) (sym taken.story) stands.at

  pub was_going : (list : List Recorded) → HandleWasHanded old list → has_failed before ≡ false
  was_going list handed = taken.failed ∙ handed.going

  pub was_handed : (list : List Recorded) → HandleWasHanded old list → AreTotals before.totals list
  was_handed list handed = subst (λ totals. AreTotals totals list) (sym (ap (λ (state : RecorderState). state.totals) taken.state)) handed.totals

module _ (new : Handle) (plan : DevicePlan) (after : Recorder Plan) (put : IsPut new plan after) where
  pub stands : (list committed : List Recorded) → has_failed after ≡ false → StandsAt true plan_story after list committed → HandleStands new list committed
  stands list committed going at = record {
    recorder = put.is_recorder;
    going = put.failed ∙ going;
    at = is_at list committed _ _ _ _ (sym put.state) (sym put.story) at;
  }

  pub is_handed : (list : List Recorded) → has_failed after ≡ false → AreTotals after.totals list → HandleWasHanded new list
  is_handed list going totals = record {
    recorder = put.is_recorder;
    going = put.failed ∙ going;
    totals = subst (λ totals. AreTotals totals list) (sym (ap (λ (state : RecorderState). state.totals) put.state)) totals;
  }

  module _ (old : Handle) (before : Recorder Plan) (taken : IsTaken old before) where
    unchanged : after ≡ before → IsSame old new
    unchanged is = record {
      state = put.state ∙ ap state_of is ∙ taken.state;
      failed = put.failed ∙ ap has_failed is ∙ taken.failed;
      story = put.story ∙ ap (λ (recorder : Recorder Plan). plan_story (disk_of recorder)) is ∙ taken.story;
    }

    refused : (result : Result (Unit {0}) RecFault) (code : ℕ) → code ≡ code_of result → AfterCall true plan_story result before after
        → (IsErrOf result Device → ⊥) → (code ≡ 0 → ⊥) → IsSame old new
    refused (Ok _) code is called never no_zero = absurd (no_zero is)
    refused (Err fault) code is called never no_zero =
        ⊎_elim (λ (device : fault ≡ Device). absurd (never (ap Err device))) (λ (same : after ≡ before). unchanged same) called.same

    no_device : (result : Result (Unit {0}) RecFault) (code : ℕ) → code ≡ code_of result → (IsErrOf result Device → ⊥) → code ≡ fault_code Device → ⊥
    no_device (Ok _) code is never device = omega (arith, is, device)
    no_device (Err fault) code is never device = not_device fault code is (λ (fault_is : fault ≡ Device). never (ap Err fault_is)) device

    pub steps : (result : Result (Unit {0}) RecFault) (code : ℕ) → code ≡ code_of result → AfterCall true plan_story result before after
        → (IsErrOf result Device → ⊥) → numbers_of (plan_since (disk_of after)) ≡ numbers_of (plan_since (disk_of before)) → PlansStep old new plan code
    steps result code is called never same = record {
      planned = leads_since plan (disk_of before) (disk_of after) _ _ _ taken.since same (sym put.story) put.planned;
      none = λ no. absurd (no taken.is_recorder);
      known = λ _. put.is_recorder;
      refused = λ _. refused result code is called never;
      no_device = no_device result code is never;
    }

    pub throughout : (P : Contents → Type 0) → Throughout P (plan_story (disk_of before)) (plan_story (disk_of after)) → Throughout P (handle_story old) (handle_story new)
    throughout P run = subst (λ later. Throughout P (handle_story old) later) (sym put.story) (subst (λ earlier. Throughout P earlier (plan_story (disk_of after))) taken.story run)

    -- the journal keeps slots that take turns
    pub never_fills : (slots_left (journal_slots before) ≡ None → slots_left (journal_slots after) ≡ None) → HandleNeverFills old → HandleNeverFills new
    never_fills keeps never =
        ap slots_left (ap (λ (state : RecorderState). state.journal_slots) put.state) ∙ keeps (ap slots_left (ap (λ (state : RecorderState). state.journal_slots) taken.state) ∙ never)
