-- The answers of a recorder's calls, derived from their parts.
use Rattle.std.proofs.Common.{◌≡◌, ◌⊎◌, inl, inr, ℕ, ◌+◌, ◌≤◌, Bool, true, false, List, None, Result, Ok, Err, sym, ◌∙◌, subst}
use Rattle.std.specs.Prelude.{OnOk, OnErr, IfErr, IsErr}
use Rattle.fit_activity.specs.declared.recording.entry.Entry.{Entry}
use Rattle.fit_activity.specs.declared.recording.entry.Entry.TheVariants.{Stop}
use Rattle.fit_activity.specs.Rides.Recording.{Recorded}
use Rattle.fit_activity.specs.Rides.RunningTotals.{AreTotals, TotalsState}
use Rattle.fit_activity.specs.Rides.Refusal.{refusal_of, has_stopped}
use Rattle.fit_recorder.specs.declared.fault.RecFault.{RecFault}
use Rattle.fit_recorder.specs.declared.fault.RecFault.TheVariants.{Device}
use Rattle.fit_journal.specs.declared.slots.Slots.{Slots}
use Rattle.fit_journal.specs.Turn.{HasTwoSlots}
use Rattle.fit_recorder.proofs.Commit.Standing.{going_on}
use Rattle.fit_disk.specs.Story.{Story}
use Rattle.fit_recorder.specs.Private.State.{RecorderState, IsAt}
use Rattle.fit_recorder.specs.declared.recorder.Recorder.{Recorder}
use Rattle.fit_recorder.specs.Calls.After.{AfterCall}
use Rattle.fit_recorder.specs.Calls.Recorder.{GoesOn, has_failed}
use Rattle.fit_recorder.specs.Calls.Answers.{HandAnswers, CommitAnswers, StopAnswers}

-- a recorder in which no call failed has ended or stands at some list
pub not_failed : {P : Type 0} (failed : Bool) → failed ≡ false → (failed ≡ true) ⊎ P → P
not_failed failed is (inl other) = let clash : false ≡ true = sym is ∙ other in absurd cc
not_failed failed is (inr at) = at

-- and one whose list has no stop has not ended
pub not_ended : {P : Type 0} (totals : TotalsState) → ((list : List Recorded) → AreTotals totals list → has_stopped list ≡ false)
    → ((list : List Recorded) × (AreTotals totals list × (has_stopped list ≡ true))) ⊎ P → P
not_ended totals going (inl ended) = let clash : true ≡ false = sym ended.1.1 ∙ going ended.0 ended.1.0 in absurd cc
not_ended totals going (inr at) = at

pub open_before : (totals : TotalsState) (list : List Recorded) (e : Entry) → AreTotals totals list → refusal_of list e ≡ None → has_stopped list ≡ false
open_before totals list e are none = sym are.stopped ∙ going_on totals list e are none

-- nor has one that does not refuse an entry
pub not_refused : (honest : Bool) (memory : RecorderState) (story : Story) (failed : Bool) (e : Entry) → failed ≡ false → ((list : List Recorded) → AreTotals memory.totals list → None ≡ refusal_of list e)
    → (failed ≡ true) ⊎ (((list : List Recorded) × (AreTotals memory.totals list × (has_stopped list ≡ true))) ⊎ ((list : List Recorded) × (committed : List Recorded) × IsAt honest memory story list committed))
    → (list : List Recorded) × (committed : List Recorded) × IsAt honest memory story list committed × (refusal_of list e ≡ None) × (has_stopped list ≡ false)
not_refused honest memory story failed e is none goes =
    let at = not_ended memory.totals (λ list totals. open_before memory.totals list e totals (sym (none list totals))) (not_failed failed is goes) in
    let not = sym (none at.0 at.2.totals) in
    (at.0, at.1, at.2, not, open_before memory.totals at.0 e at.2.totals not)

pub hand_answers : (list : List Recorded) (len : ℕ) (e : Entry) (result : Result (Unit {0}) RecFault) → refusal_of list e ≡ None → len + 96 ≤ 16776704 → IfErr result (λ fault. fault ≡ Device) → HandAnswers list len e result
hand_answers list len e (Ok done) none room device = (none, room)
hand_answers list len e (Err fault) none room device = subst (λ fault. HandAnswers list len e (Err fault)) (sym device) (none, room)

pub stop_answers : (list : List Recorded) (time : ℕ) (result : Result (Unit {0}) RecFault) → refusal_of list (Stop time) ≡ None → IfErr result (λ fault. fault ≡ Device) → StopAnswers list time result
stop_answers list time (Ok done) none device = none
stop_answers list time (Err fault) none device = subst (λ fault. StopAnswers list time (Err fault)) (sym device) none

pub commit_answers : (list : List Recorded) (journal_slots : Slots) (result : Result (Unit {0}) RecFault) → has_stopped list ≡ false → HasTwoSlots journal_slots → IfErr result (λ fault. fault ≡ Device) → CommitAnswers list journal_slots result
commit_answers list journal_slots (Ok done) going room device = (going, room)
commit_answers list journal_slots (Err fault) going room device = subst (λ fault. CommitAnswers list journal_slots (Err fault)) (sym device) (going, room)

-- after an Ok a recorder continues, and after a fault it has failed
pub goes_by : {T E : Type 0} (P Q G : Type 0) (result : Result T E) → OnOk result P → OnErr result Q → (P → G) → (Q → G) → G
goes_by P Q G (Ok x) ok err on_ok on_err = on_ok ok
goes_by P Q G (Err e) ok err on_ok on_err = on_err err

-- what holds after a call that only the device can refuse
pub after_call : {D : Type 0} (honest : Bool) (story : D → Story) (old new : Recorder D) (result : Result (Unit {0}) RecFault) → GoesOn honest story new
    → has_failed old ≡ false → IfErr result (λ fault. fault ≡ Device) → OnOk result (has_failed new ≡ false) → OnErr result (has_failed new ≡ true)
    → AfterCall honest story result old new
after_call honest story old new (Ok done) goes_on not device going gone = record {
  goes_on = goes_on;
  failed = λ failed. (let clash : false ≡ true = sym not ∙ failed in absurd cc);
  going = going;
  gone = λ none. absurd cc;
  same = tt;
}
after_call honest story old new (Err fault) goes_on not device going gone = record {
  goes_on = goes_on;
  failed = λ failed. (let clash : false ≡ true = sym not ∙ failed in absurd cc);
  going = going;
  gone = λ _. gone;
  same = inl device;
}

-- an error has no value of which anything is to be shown
pub none_on_ok : {T E : Type 0} (P : Type 0) (result : Result T E) → IsErr result → OnOk result P
none_on_ok P (Ok x) bad = absurd cc
none_on_ok P (Err e) bad = tt
