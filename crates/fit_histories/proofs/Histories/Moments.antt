-- What a power cut may leave at each moment of a call of a recorder that runs.
use Rattle.std.proofs.Common.{◌≡◌, ⊎_elim, ℕ, Bool, true, false, true≢false, List, [], ◌∷◌, ◌++◌, take, Result, sym, ◌∙◌, ap, subst}
use Rattle.std.proofs.lemmas.List.{take_at}
use Rattle.fit_activity.specs.declared.recording.entry.Entry.{Entry}
use Rattle.fit_activity.specs.declared.recording.entry.Entry.TheVariants.{Sample, Lap, Pause, Resume, Stop}
use Rattle.fit_activity.specs.Rides.Recording.{Recorded, Added, is_stop}
use Rattle.fit_disk.specs.State.{Contents}
use Rattle.fit_disk.specs.Story.{Story, Throughout}
use Rattle.fit_disk.proofs.Moments.{weaker, begins}
use Rattle.fit_recorder.specs.declared.fault.RecFault.{RecFault}
use Rattle.fit_recorder.specs.declared.recorder.Recorder.{Recorder}
use Rattle.fit_recorder.specs.Calls.After.{AfterCall}
use Rattle.fit_recorder.specs.Calls.Recorder.{StandsAt, disk_of}
use Rattle.fit_recorder.specs.Files.Body.{EitherStands, StandsFor}
use Rattle.fit_histories.specs.declared.command.Command.{Command}
use Rattle.fit_histories.specs.declared.command.Command.TheVariants as commands
use Rattle.fit_histories.specs.declared.ride.Ride.TheVariants as rides
use Rattle.fit_histories.specs.Histories.Claims.{Claim}
use Rattle.fit_histories.specs.Histories.Table.{History, Idle, Riding, ended}
use Rattle.fit_histories.specs.Rides.Moments.{MayLeave}
use Rattle.fit_histories.specs.Rides.Standing.{Fits, RidesOn, StandsIn}

-- what may be left of a ride after its end may be left of it before
pub unended : (before : History) (old new : Story) → Throughout (Fits (ended before)) old new → Throughout (Fits before) old new
unended before old new = weaker (Fits (ended before)) (Fits before) (λ contents fits. record { keeps = fits.keeps; empty = fits.empty }) old new

-- no recorder runs, and no call is made
pub idle_moments : {D : Type 0} (honest : Bool) (story : D → Story) (command : Command)
    → ((claims : List Claim) (begun : Bool) (contents : Contents) → Fits (Idle claims begun) contents → MayLeave (Idle claims begun) command contents)
    → (disk : D) (before : History) → StandsIn honest story (rides.Idle disk) before → Throughout (MayLeave before command) (story disk) (story disk)
idle_moments honest story command fits disk (Idle claims begun) rests =
    begins (MayLeave (Idle claims begun) command) (story disk) (λ contents left. fits claims begun contents (rests contents left))
idle_moments honest story command fits disk (Riding list promise reopened failed) none = absurd none

module _ {D : Type 0} (honest : Bool) (story : D → Story) (old new : Recorder D) (result : Result (Unit {0}) RecFault) (after : AfterCall honest story result old new) where
  abbrev AtMoments : (Contents → Type 0) → Type 0
  AtMoments Leaves = Throughout Leaves (story (disk_of old)) (story (disk_of new))

  -- what is committed is the list of the last commit
  front : (list : List Recorded) (promise : ℕ) (reopened : Bool) → (on : RidesOn honest story old list promise reopened) → on.committed ≡ take promise list
  front list promise reopened on = sym (ap (take promise) on.begins ∙ take_at on.committed on.rest promise (sym on.promised))

  -- after a failure nothing changes
  failed_moments : (list : List Recorded) (promise : ℕ) (reopened : Bool) → StandsIn honest story (rides.Riding old) (Riding list promise reopened true)
      → AtMoments (Fits (Riding list promise reopened true))
  failed_moments list promise reopened broken =
      let same : new ≡ old = ⊎_elim (λ device. absurd cc) (λ kept. kept) (rw (after.failed broken.0) at after.same) in
      subst (λ recorder. Throughout (Fits (Riding list promise reopened true)) (story (disk_of old)) (story (disk_of recorder))) (sym same)
      (begins (Fits (Riding list promise reopened true)) (story (disk_of old)) broken.1)

  module _ (entry : Entry) (other : is_stop (Added entry) ≡ false) (moments : (list committed : List Recorded) → StandsAt honest story old list committed → AtMoments (StandsFor committed)) where
    by_entry : (entry : Entry) → is_stop (Added entry) ≡ false → (list : List Recorded) (promise : ℕ) (reopened : Bool) → AtMoments (StandsFor (take promise list))
        → AtMoments (MayLeave (Riding list promise reopened false) (commands.Entry entry))
    by_entry (Sample sample) other list promise reopened at = at
    by_entry (Lap time) other list promise reopened at = at
    by_entry (Pause time) other list promise reopened at = at
    by_entry (Resume time) other list promise reopened at = at
    by_entry (Stop time) other list promise reopened at = absurd (true≢false other)

    pub hand_moments : (before : History) → StandsIn honest story (rides.Riding old) before → AtMoments (MayLeave before (commands.Entry entry))
    hand_moments (Idle claims begun) none = absurd none
    hand_moments (Riding list promise reopened false) on =
        by_entry entry other list promise reopened (subst (λ committed. AtMoments (StandsFor committed)) (front list promise reopened on) (moments list on.committed on.stands))
    hand_moments (Riding list promise reopened true) broken = failed_moments list promise reopened broken

  pub commit_moments : ((list committed : List Recorded) → StandsAt honest story old list committed → AtMoments (EitherStands committed list))
      → (before : History) → StandsIn honest story (rides.Riding old) before → AtMoments (MayLeave before commands.Commit)
  commit_moments moments (Idle claims begun) none = absurd none
  commit_moments moments (Riding list promise reopened false) on =
      subst (λ committed. AtMoments (EitherStands committed list)) (front list promise reopened on) (moments list on.committed on.stands)
  commit_moments moments (Riding list promise reopened true) broken = failed_moments list promise reopened broken

  pub stop_moments : (time : ℕ) → ((list committed : List Recorded) → StandsAt honest story old list committed → AtMoments (EitherStands committed (list ++ Added (Stop time) ∷ [])))
      → (before : History) → StandsIn honest story (rides.Riding old) before → AtMoments (MayLeave before (commands.Entry (Stop time)))
  stop_moments time moments (Idle claims begun) none = absurd none
  stop_moments time moments (Riding list promise reopened false) on =
      subst (λ committed. AtMoments (EitherStands committed (list ++ Added (Stop time) ∷ []))) (front list promise reopened on) (moments list on.committed on.stands)
  stop_moments time moments (Riding list promise reopened true) broken = failed_moments list promise reopened broken
