-- A journal of two slots that take turns, or of three, has no last slot, and a commit keeps it so.
use Rattle.std.proofs.Common.{⊎_elim, ◌≡◌, ◌==◌, if◌then◌else◌, ℕ, Bool, true, false, List, Option, refl, ap, ◌∙◌, arith, Result, Ok, Err}
use Rattle.std.specs.Prelude.{None, OnOk, IsErrOf}
use Rattle.fit_activity.specs.Rides.Recording.{Recorded}
use Rattle.fit_device.specs.Answer.{code_of}
use Rattle.fit_journal.specs.Turn.{committed_slots, slots_left, turn_of}
use Rattle.fit_journal.specs.declared.slots.Slots.{Slots}
use Rattle.fit_journal.specs.declared.slots.Slots.TheVariants.{InRow, HalfOpen, InTurns, InThree}
use Rattle.fit_plan.specs.Plan.{plan_story}
use Rattle.fit_plan.specs.declared.plan.Plan.{Plan}
use Rattle.fit_recorder.specs.Calls.After.{AfterCall}
use Rattle.fit_recorder.specs.Calls.Answers.{CommitAnswers}
use Rattle.fit_recorder.specs.Calls.FaultCode.{fault_code}
use Rattle.fit_recorder.specs.Calls.Recorder.{journal_slots}
use Rattle.fit_recorder.specs.declared.fault.RecFault.{RecFault}
use Rattle.fit_recorder.specs.declared.fault.RecFault.TheVariants.{NotEmpty, Refused, Full, JournalFull, Device, Failed, NothingRecorded, Damaged}
use Rattle.fit_recorder.specs.declared.recorder.Recorder.{Recorder}

either : (is_first : Bool) (a b c d : Option ℕ) → slots_left (if is_first then InTurns a b else InTurns c d) ≡ None
either true a b c d = refl
either false a b c d = refl

turns_on : (slots : Slots) (len checksum : ℕ) → slots_left slots ≡ None → slots_left (committed_slots slots len checksum) ≡ None
turns_on (InRow slots) len checksum none = let no : ⊥ = cc in absurd no
turns_on (HalfOpen slots) len checksum none = let no : ⊥ = cc in absurd no
turns_on (InTurns first second) len checksum none = either (turn_of first second == 0) _ _ _ _
turns_on (InThree first second third) len checksum none = refl

pub after_commit : (result : Result (Unit {0}) RecFault) (len checksum : ℕ) (before after : Recorder Plan) → AfterCall true plan_story result before after
    → (IsErrOf result Device → ⊥) → OnOk result (journal_slots after ≡ committed_slots (journal_slots before) len checksum)
    → slots_left (journal_slots before) ≡ None → slots_left (journal_slots after) ≡ None
after_commit (Ok _) len checksum before after called never slots none = ap slots_left slots ∙ turns_on (journal_slots before) len checksum none
after_commit (Err fault) len checksum before after called never slots none =
    ⊎_elim (λ (device : fault ≡ Device). absurd (never (ap Err device))) (λ (same : after ≡ before). ap (λ (recorder : Recorder Plan). slots_left (journal_slots recorder)) same ∙ none) called.same

no_last_slot : (slots : Slots) (list : List Recorded) → CommitAnswers list slots (Err JournalFull) → slots_left slots ≡ None → ⊥
no_last_slot (InRow slots) list is none = cc
no_last_slot (HalfOpen slots) list is none = cc
no_last_slot (InTurns first second) list is none = is.1
no_last_slot (InThree first second third) list is none = is.1

pub never_full : (answer : Result (Unit {0}) RecFault) (slots : Slots) (list : List Recorded) (code : ℕ) → CommitAnswers list slots answer → code ≡ code_of answer
    → slots_left slots ≡ None → code ≡ fault_code JournalFull → ⊥
never_full (Ok _) slots list code is code_is none full = omega (arith, code_is, full)
never_full (Err JournalFull) slots list code is code_is none full = no_last_slot slots list is none
never_full (Err NotEmpty) slots list code is code_is none full = omega (arith, code_is, full)
never_full (Err (Refused refusal)) slots list code is code_is none full = omega (arith, code_is, full)
never_full (Err Full) slots list code is code_is none full = omega (arith, code_is, full)
never_full (Err Device) slots list code is code_is none full = omega (arith, code_is, full)
never_full (Err Failed) slots list code is code_is none full = omega (arith, code_is, full)
never_full (Err NothingRecorded) slots list code is code_is none full = omega (arith, code_is, full)
never_full (Err Damaged) slots list code is code_is none full = omega (arith, code_is, full)
