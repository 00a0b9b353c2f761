-- What each call does to the recorder in a handle, and what its plan does to the two files.
use Rattle.std.specs.Prelude.{◌≡◌, ◌⊎◌, ◌+◌, ◌≤◌, ℕ, List, [], ◌∷◌, ◌++◌, Result}
use Rattle.fit_activity.specs.declared.recording.entry.Entry.{Entry}
use Rattle.fit_activity.specs.declared.recording.entry.Entry.TheVariants.{Stop}
use Rattle.fit_activity.specs.Rides.Recording.{Recorded, Added}
use Rattle.fit_device.specs.declared.handle.Handle.{Handle}
use Rattle.fit_device.specs.declared.plan.DevicePlan.{DevicePlan}
use Rattle.fit_device.specs.Answer.{code_of, no_recorder}
use Rattle.fit_device.specs.Handle.{handle_story, IsRecorder, HandleNeverFills, HandleWasHanded, HandleStands}
use Rattle.fit_device.specs.Planned.{Leads}
use Rattle.fit_disk.specs.Story.{Throughout}
use Rattle.fit_journal.specs.Frozen.{slots_in}
use Rattle.fit_recorder.specs.Calls.FaultCode.{fault_code}
use Rattle.fit_recorder.specs.Calls.Frozen.{state_in, has_failed_in}
use Rattle.fit_recorder.specs.Calls.Recorder.{timed_size}
use Rattle.fit_recorder.specs.Calls.Answers.{HandAnswers, CommitAnswers, StopAnswers}
use Rattle.fit_recorder.specs.Files.Body.{StandsFor}
use Rattle.fit_recorder.specs.Files.Finished.{IsFinished}
use Rattle.fit_recorder.specs.declared.fault.RecFault.{RecFault}
use Rattle.fit_recorder.specs.declared.fault.RecFault.TheVariants.{Device, JournalFull}

-- the answer with this number
abbrev pub AnswersWith : (Result (Unit {0}) RecFault → Type 0) → ℕ → Type 0
AnswersWith Is code = (answer : Result (Unit {0}) RecFault) × (Is answer × (code ≡ code_of answer))

-- the same recorder over the same files
pub record IsSame (old new : Handle) : Type 0 where
  pub state : state_in new.recorder ≡ state_in old.recorder
  pub failed : has_failed_in new.recorder ≡ has_failed_in old.recorder
  pub story : handle_story new ≡ handle_story old

-- The files are those before with the planned calls. After a refusal nothing changed. A plan has room for all calls of a step, so none of them
-- fails. A handle that is none of a recorder stays as it is, and nothing is planned.
pub record PlansStep (old new : Handle) (plan : DevicePlan) (code : ℕ) : Type 0 where
  pub planned : Leads plan (handle_story old) (handle_story new)
  pub none : (IsRecorder old → ⊥) → (code ≡ no_recorder) × (new ≡ old)
  pub known : IsRecorder old → IsRecorder new
  pub refused : IsRecorder old → (code ≡ 0 → ⊥) → IsSame old new
  pub no_device : code ≡ fault_code Device → ⊥

-- An entry is handed. A host that carries out any part of the plan leaves what was committed.
pub record HandsEntry (e : Entry) (old new : Handle) (plan : DevicePlan) (code : ℕ) : Type 0 where
  pub steps : PlansStep old new plan code
  pub answers : (list : List Recorded) → HandleWasHanded old list
      → AnswersWith (HandAnswers list old.recorder.len e) code
  pub ok : (list committed : List Recorded) → HandleStands old list committed → code ≡ 0
      → HandleStands new (list ++ Added e ∷ []) committed
  pub never_fills : HandleNeverFills old → HandleNeverFills new
  pub any_moment : (list committed : List Recorded) → HandleStands old list committed
      → Throughout (StandsFor committed) (handle_story old) (handle_story new)

-- if the entry is taken, its data message states its time
abbrev pub HasTime : Entry → Handle → Handle → ℕ → Type 0
HasTime e old new code = (list : List Recorded) → HandleWasHanded old list → code ≡ 0
    → old.recorder.len + timed_size list e ≤ new.recorder.len

-- All entries are committed. Any part of the plan leaves what was committed before, or all entries.
pub record CommitsEntries (old new : Handle) (plan : DevicePlan) (code : ℕ) : Type 0 where
  pub steps : PlansStep old new plan code
  pub answers : (list : List Recorded) → HandleWasHanded old list
      → AnswersWith (CommitAnswers list (slots_in old.recorder.journal)) code
  pub ok : (list committed : List Recorded) → HandleStands old list committed → code ≡ 0
      → HandleStands new list list
  pub never_fills : HandleNeverFills old → HandleNeverFills new
  pub not_full : (list : List Recorded) → HandleWasHanded old list → HandleNeverFills old
      → code ≡ fault_code JournalFull → ⊥
  pub any_moment : (list committed : List Recorded) → HandleStands old list committed
      → Throughout (λ contents. StandsFor committed contents
      ⊎ StandsFor list contents) (handle_story old) (handle_story new)

-- The recording ends, and its data file is the finished one.
pub record EndsRide (time : ℕ) (old new : Handle) (plan : DevicePlan) (code : ℕ) : Type 0 where
  pub steps : PlansStep old new plan code
  pub answers : (list : List Recorded) → HandleWasHanded old list
      → AnswersWith (StopAnswers list time) code
  pub ended : (list : List Recorded) → HandleWasHanded old list → code ≡ 0
      → HandleWasHanded new (list ++ Added (Stop time) ∷ [])
  pub finished : (list committed : List Recorded) → HandleStands old list committed → code ≡ 0
      → IsFinished (list ++ Added (Stop time) ∷ []) (handle_story new)
  pub any_moment : (list committed : List Recorded) → HandleStands old list committed
      → Throughout (λ contents. StandsFor committed contents
      ⊎ StandsFor (list ++ Added (Stop time) ∷ []) contents) (handle_story old) (handle_story new)
