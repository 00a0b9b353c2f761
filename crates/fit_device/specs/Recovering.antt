-- What a recovery, a reopening and an erasing answer for two files that are lent, and what their plans do to these.
use Rattle.std.specs.Prelude.{◌≡◌, ℕ, List, [], Result}
use Rattle.fit_activity.specs.declared.activity.Summary.{Summary}
use Rattle.fit_activity.specs.Rides.Recording.{Recorded}
use Rattle.fit_device.specs.declared.handle.Handle.{Handle}
use Rattle.fit_device.specs.declared.plan.DevicePlan.{DevicePlan}
use Rattle.fit_device.specs.Answer.{IsCodeOf, IsNumberOf}
use Rattle.fit_device.specs.Handle.{handle_story, IsRecorder, HandleStands}
use Rattle.fit_device.specs.Planned.{carried_out, IsWellFormed}
use Rattle.fit_disk.specs.Calls.{IsSound}
use Rattle.fit_disk.specs.State.{Contents, seen_in}
use Rattle.fit_disk.specs.Stored.{at_rest}
use Rattle.fit_disk.specs.Story.{Story, Throughout, seen_of}
use Rattle.fit_disk.specs.declared.disk.Which.TheVariants.{Data, Journal}
use Rattle.fit_journal.specs.Adopting.{Adopted}
use Rattle.fit_journal.specs.Frozen.{slots_in}
use Rattle.fit_recorder.specs.Calls.Erasing.{LeftOrErased}
use Rattle.fit_recorder.specs.Calls.FaultCode.{fault_code}
use Rattle.fit_recorder.specs.Calls.Recovery.{RecoveryAnswers, InRecovery}
use Rattle.fit_recorder.specs.Calls.Resume.{IsRefusedFor}
use Rattle.fit_recorder.specs.Files.Body.{StandsFor}
use Rattle.fit_recorder.specs.Files.Committed.{HasCounted}
use Rattle.fit_recorder.specs.declared.fault.RecFault.{RecFault}
use Rattle.fit_recorder.specs.declared.fault.RecFault.TheVariants.{Device}

-- two files with any past, whatever was kept of them
pub record SoundFiles : Type 0 where
  pub story : Story
  pub sound : IsSound story.now

-- reads of them give what C lends
abbrev pub AreLent : SoundFiles → List ℕ → List ℕ → Type 0
AreLent files in_data in_journal =
    (seen_of Data files.story ≡ in_data) × (seen_of Journal files.story ≡ in_journal)

-- The answer is that of a recovery, and any part of the plan leaves what the files stood for. After 0 the body that was finished has the
-- checksum that the journal states. After other codes the plan has no calls, so the files stay. 5 never comes: reads give what is lent, and
-- the plan has room.
pub record RecoversFiles (old : Story) (plan : DevicePlan) (code : ℕ) : Type 0 where
  pub well_formed : IsWellFormed plan old
  pub answer : Result Summary RecFault
  pub code_is : IsCodeOf (seen_in old.now) answer code
  pub decides : RecoveryAnswers (seen_in old.now) (carried_out plan old) answer
  pub checked : code ≡ 0 → HasCounted (seen_of Journal old) (seen_of Data (carried_out plan old))
  pub refused : (code ≡ 0 → ⊥) → (plan.count ≡ 0) × (carried_out plan old ≡ old)
  pub no_device : code ≡ fault_code Device → ⊥
  pub any_moment : InRecovery old (carried_out plan old)

-- the recorder in the handle goes on with the list that the files stood for, all of which is committed, and with their journal
pub record GoesOnWith (contents : Contents) (new : Handle) : Type 0 where
  pub list : List Recorded
  pub stood : StandsFor list contents
  pub stands : HandleStands new list list
  pub adopted : Adopted (slots_in new.recorder.journal) new.recorder.len contents.in_journal

-- no ride continues, for this reason
abbrev pub IsNotContinued : Story → ℕ → Type 0
IsNotContinued old code =
    (fault : RecFault) × IsNumberOf (seen_in old.now) fault code × IsRefusedFor (seen_in old.now) fault

-- After 0 the recorder goes on over the files after the plan. After the other answers, which are those of a resume, the handle is none of
-- a recorder, the plan has no calls, and the files stay. The checksum and 5 are as in a recovery.
pub record Reopens (old : Story) (new : Handle) (plan : DevicePlan) (code : ℕ) : Type 0 where
  pub well_formed : IsWellFormed plan old
  pub ok : code ≡ 0 → (handle_story new ≡ carried_out plan old) × GoesOnWith (seen_in old.now) new
  pub checked : code ≡ 0 → HasCounted (seen_of Journal old) (seen_of Data (handle_story new))
  pub refused : (code ≡ 0 → ⊥) → IsNotContinued old code × (IsRecorder new → ⊥) × (plan.count ≡ 0)
  pub same : (code ≡ 0 → ⊥) → carried_out plan old ≡ old
  pub no_device : code ≡ fault_code Device → ⊥
  pub any_moment : InRecovery old (carried_out plan old)

-- The code is 0, and the data file is empty. Any part of the plan leaves the files, or a recording that is forgotten.
pub record Erases (old : Story) (plan : DevicePlan) (code : ℕ) : Type 0 where
  pub well_formed : IsWellFormed plan old
  pub zero : code ≡ 0
  pub empty : (carried_out plan old).now.data_file ≡ at_rest []
  pub any_moment : Throughout (LeftOrErased old.now) old (carried_out plan old)
