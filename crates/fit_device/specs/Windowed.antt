-- A recovery, a reopening and an erasing by windows in the memory of C.
use Rattle.std.specs.Prelude.{◌≡◌, ◌⊎◌, ◌+◌, ◌<◌, ◌≤◌, min, length, ℕ, List, [], Result, Ok, Err}
use Rattle.fit_activity.specs.declared.activity.Summary.{Summary}
use Rattle.fit_disk.specs.State.{BothLeft, seen_in}
use Rattle.fit_disk.specs.Stored.{at_rest}
use Rattle.fit_disk.specs.Story.{Story, Throughout, seen_of}
use Rattle.fit_disk.specs.declared.disk.Which.TheVariants.{Data, Journal}
use Rattle.fit_plan.specs.Carried.{number_of}
use Rattle.fit_recorder.specs.Calls.Erasing.{LeftOrErased}
use Rattle.fit_recorder.specs.Calls.FaultCode.{fault_code}
use Rattle.fit_recorder.specs.Calls.Recovery.{RecoveryAnswers, Rebuilds}
use Rattle.fit_recorder.specs.Calls.Resume.{IsRefusedFor}
use Rattle.fit_recorder.specs.Files.Committed.{HasCounted}
use Rattle.fit_recorder.specs.Files.Settled.{IsSettled}
use Rattle.fit_recorder.specs.Calls.Ride.{MayGoOn, TakesUp}
use Rattle.fit_recorder.specs.declared.fault.RecFault.{RecFault}
use Rattle.fit_recorder.specs.declared.resuming.FoundRide.{FoundRide}
use Rattle.fit_recorder.specs.declared.fault.RecFault.TheVariants.{Device}
use Rattle.fit_device.specs.Answer.{IsCodeOf, IsNumberOf, no_recorder, wants}
use Rattle.fit_device.specs.Asking.{asked_numbers, finding_phase, IsAsking}
use Rattle.fit_device.specs.Handle.{handle_story as story_in}
use Rattle.fit_device.specs.Planned.{carried_out, IsWellFormed, Leads}
use Rattle.fit_device.specs.Recovering.{GoesOnWith}
use Rattle.fit_device.specs.declared.files.Files.{Files}
use Rattle.fit_device.specs.declared.handle.Handle.{Handle}
use Rattle.fit_device.specs.declared.plan.DevicePlan.{DevicePlan}
use Rattle.fit_device.specs.declared.windowed.RecoveryHandle.{RecoveryHandle}

-- the story of the two files, once the last plan was carried out
abbrev pub recovery_story : RecoveryHandle → Story
recovery_story h = h.notes.story

abbrev pub asked_of : RecoveryHandle → List ℕ
asked_of h = asked_numbers h.data_size h.journal_size h.at h.file h.phase h.count

-- it asks for a window
abbrev pub IsRecovery : RecoveryHandle → Type 0
IsRecovery h = IsAsking h.mark h.seal h.reading (asked_of h) × (h.filled ≤ 512)

-- it asks for one of the journal
abbrev pub AsksForJournal : RecoveryHandle → Type 0
AsksForJournal h = IsRecovery h × (h.phase ≡ finding_phase)

-- it asks for at most 512 bytes of the data file, which has them
pub record AsksForBody (h : RecoveryHandle) : Type 0 where
  pub asks : IsRecovery h
  pub reads : h.phase ≡ finding_phase → ⊥
  pub of_data : h.file ≡ number_of Data
  pub few : h.count ≤ 512
  pub inside : h.at + h.count ≤ length (seen_of Data (recovery_story h))

-- its window has less than it asks for
abbrev pub IsShort : RecoveryHandle → Type 0
IsShort h = h.filled < h.count

-- The next window. It begins at least 416 bytes after the one of the body before it.
pub record AsksOn (old new : RecoveryHandle) : Type 0 where
  pub body : AsksForBody new
  pub moves : (old.phase ≡ finding_phase → ⊥) → old.at + 416 ≤ new.at

-- the window has less than the journal
abbrev pub LacksJournal : RecoveryHandle → Type 0
LacksJournal h =
    (h.phase ≡ finding_phase) × (h.filled < length (seen_of Journal (recovery_story h)))

-- A recovery is begun: both files are synced, and then it asks for the start of the journal, or all of it.
pub record BeginsRecovery (old new : RecoveryHandle) (plan : DevicePlan) (code : ℕ) : Type 0 where
  pub planned : Leads plan (recovery_story old) (recovery_story new)
  pub wanted : code ≡ wants
  pub asks : AsksForJournal new × (new.file ≡ number_of Journal) × (new.at ≡ 0)
      × (new.count ≡ min 512 (length (seen_of Journal (recovery_story new))))
  pub settled : IsSettled (seen_in (recovery_story old).now) (recovery_story new)
  pub any_moment : Throughout (BothLeft (recovery_story old).now) (recovery_story old)
      (recovery_story new)

-- The window of the journal was filled. It asks for the first of the body, or reports why there is none. Nothing is planned, and no call
-- fails if the window has all of the journal.
pub record TakesJournalWindow (old new : RecoveryHandle) (plan : DevicePlan)
    (code : ℕ) : Type 0 where
  pub planned : Leads plan (recovery_story old) (recovery_story new)
  pub same : recovery_story new ≡ recovery_story old
  pub asks : code ≡ wants → AsksForBody new
  pub ended : (code ≡ wants → ⊥) → IsRecovery new → ⊥
  pub answers : (code ≡ wants) ⊎ ((fault : RecFault)
      × IsNumberOf (seen_in (recovery_story old).now) fault code
      × RecoveryAnswers (seen_in (recovery_story old).now) (recovery_story new) (Err fault))
  pub device : code ≡ fault_code Device → LacksJournal old

-- A window was filled. It asks for the next, or it has ended, and answers as a recovery does. Nothing is planned unless it answers 0, and then
-- the body that was finished has the checksum that the journal states. 5 comes where the window has less than was asked for, and else only
-- where it has less than the journal.
pub record TakesWindow (old new : RecoveryHandle) (plan : DevicePlan) (code : ℕ) : Type 0 where
  pub planned : Leads plan (recovery_story old) (recovery_story new)
  pub none : (IsRecovery old → ⊥) → (code ≡ no_recorder) × (new ≡ old)
  pub asks : IsRecovery old → code ≡ wants → AsksOn old new
  pub ended : (code ≡ wants → ⊥) → IsRecovery new → ⊥
  pub same : (code ≡ 0 → ⊥) → recovery_story new ≡ recovery_story old
  pub answers : IsRecovery old
      → (code ≡ wants) ⊎ ((answer : Result Summary RecFault)
      × IsCodeOf (seen_in (recovery_story old).now) answer code
      × RecoveryAnswers (seen_in (recovery_story old).now) (recovery_story new) answer)
  pub device : code ≡ fault_code Device → IsShort old ⊎ LacksJournal old
  pub short : IsRecovery old → IsShort old → code ≡ fault_code Device
  pub checked : code ≡ 0
      → HasCounted (seen_of Journal (recovery_story old)) (seen_of Data (recovery_story new))
  pub any_moment : IsRecovery old
      → Rebuilds (seen_in (recovery_story old).now) (recovery_story old) (recovery_story new)

-- the files after the plan
abbrev pub story_left_by : DevicePlan → RecoveryHandle → Story
story_left_by plan old = carried_out plan (recovery_story old)

-- A window was filled. It asks for the next, or it has ended: the recorder in the handle goes on with the list that the files stood for; or
-- it answers why no ride can continue. Nothing is planned unless it answers 0, and only then another recorder takes the place of what the
-- handle held. 5 and the checksum are as above.
pub record ReopensOn (old new : RecoveryHandle) (before after : Handle) (plan : DevicePlan)
    (code : ℕ) : Type 0 where
  pub planned : (code ≡ 0 → Leads plan (recovery_story old) (story_in after))
      × ((code ≡ 0 → ⊥) → Leads plan (recovery_story old) (recovery_story new))
  pub none : (IsRecovery old → ⊥) → (code ≡ no_recorder) × (new ≡ old)
  pub asks : IsRecovery old → code ≡ wants → AsksOn old new
  pub ended : (code ≡ wants → ⊥) → IsRecovery new → ⊥
  pub same : (code ≡ 0 → ⊥) → (after ≡ before) × (recovery_story new ≡ recovery_story old)
  pub answers : IsRecovery old
      → (code ≡ wants) ⊎ (((code ≡ 0) × GoesOnWith (seen_in (recovery_story old).now) after)
      ⊎ ((fault : RecFault) × IsNumberOf (seen_in (recovery_story old).now) fault code
      × IsRefusedFor (seen_in (recovery_story old).now) fault))
  pub device : code ≡ fault_code Device → IsShort old ⊎ LacksJournal old
  pub short : IsRecovery old → IsShort old → code ≡ fault_code Device
  pub checked : code ≡ 0
      → HasCounted (seen_of Journal (recovery_story old)) (seen_of Data (story_in after))
  pub any_moment : IsRecovery old
      → Rebuilds (seen_in (recovery_story old).now) (recovery_story old) (story_left_by plan old)

-- A ride was taken up over these files, the calls are in the plan, and no window is asked for.
pub record IsTakenUp (old new : RecoveryHandle) (plan : DevicePlan) (ride : FoundRide)
    (files : Files) : Type 0 where
  pub goes_on : MayGoOn ride
  pub planned : Leads plan (recovery_story old) files.notes.story
  pub ended : IsRecovery new → ⊥
  pub taken : TakesUp (seen_in (recovery_story old).now) files.notes.story (Ok ride)
  pub checked : HasCounted (seen_of Journal (recovery_story old)) (seen_of Data files.notes.story)
  pub any_moment : Rebuilds (seen_in (recovery_story old).now)
      (recovery_story old) files.notes.story

-- The outcome of reading on in it: it is taken up, or a code that leaves any handle.
abbrev pub ReadsRide : RecoveryHandle → RecoveryHandle → DevicePlan → Result (FoundRide × Files) ℕ
    → Type 0
ReadsRide old new plan (Ok found) = IsTakenUp old new plan found.0 found.1
ReadsRide old new plan (Err code) = (handle : Handle) → ReopensOn old new handle handle plan code

-- The window of the journal was filled, and no other is asked for. After 0 the data file is empty. Any part of the plan leaves the files, or a
-- recording that is forgotten. 5 comes only for a window without a byte of a journal that has some. After it the plan has no calls. What asks
-- for no journal stays as it is, and nothing is planned.
pub record ErasesOn (old new : RecoveryHandle) (plan : DevicePlan) (code : ℕ) : Type 0 where
  pub well_formed : IsWellFormed plan (recovery_story old)
  pub none : (AsksForJournal old → ⊥) → (code ≡ no_recorder) × (new ≡ old)
  pub known : AsksForJournal old → ((code ≡ 0) ⊎ (code ≡ fault_code Device)) × (IsRecovery new → ⊥)
  pub ok : code ≡ 0 → (story_left_by plan old).now.data_file ≡ at_rest []
  pub refused : (code ≡ 0 → ⊥) → (plan.count ≡ 0) × (story_left_by plan old ≡ recovery_story old)
  pub device : code ≡ fault_code Device
      → (old.filled ≡ 0) × (0 < length (seen_of Journal (recovery_story old)))
  pub any_moment : AsksForJournal old
      → Throughout (LeftOrErased (recovery_story old).now) (recovery_story old)
      (story_left_by plan old)
