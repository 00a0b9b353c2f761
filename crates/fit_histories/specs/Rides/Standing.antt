-- The state of a ride in a history: what its disk may hold, and what a power cut may leave of it.
use Rattle.std.specs.Prelude.{◌≡◌, ◌⊎◌, ℕ, ◌+◌, ◌≤◌, if◌then◌else◌, Bool, true, false, IsTrue, List, [], ◌++◌, length, None}
use Rattle.fit_activity.specs.Rides.Recording.{Recorded, Added, is_stop}
use Rattle.fit_activity.specs.Rides.Refusal.{has_stopped}
use Rattle.fit_disk.specs.Counts.{Counts, HasFailed}
use Rattle.fit_disk.specs.Runs.{MakesAtLeast}
use Rattle.fit_disk.specs.State.{Contents, LeavesOnly}
use Rattle.fit_disk.specs.Story.{Story, seen_of}
use Rattle.fit_disk.specs.declared.disk.Which.TheVariants.{Data}
use Rattle.fit_journal.specs.Turn.{slots_left}
use Rattle.fit_recorder.specs.declared.fault.RecFault.TheVariants.{Device}
use Rattle.fit_recorder.specs.declared.recorder.Recorder.{Recorder}
use Rattle.fit_recorder.specs.Files.NothingRecorded.{IsNothing}
use Rattle.fit_recorder.specs.Files.Body.{StandsFor}
use Rattle.fit_recorder.specs.Calls.Counts.{empty_calls, entry_calls, erase_calls, fewest_commit_calls, fewest_recovery_calls, fewest_resume_calls, fewest_stop_calls, most_body_reads, most_commit_calls, recovery_calls, resume_calls, start_calls, stop_calls}
use Rattle.fit_recorder.specs.Calls.Recorder.{StandsAt, disk_of, has_failed, journal_slots}
use Rattle.fit_histories.specs.declared.command.Command.{Command}
use Rattle.fit_histories.specs.declared.command.Command.TheVariants as commands
use Rattle.fit_histories.specs.declared.reply.Reply.{Reply}
use Rattle.fit_histories.specs.declared.reply.Reply.TheVariants as replies
use Rattle.fit_histories.specs.declared.ride.Ride.{Ride}
use Rattle.fit_histories.specs.declared.ride.Ride.TheVariants as rides
use Rattle.fit_histories.specs.Histories.Claims.{Claim, has_none, MayBe}
use Rattle.fit_histories.specs.Histories.Table.{History, Idle, Riding, Outcome, Done, Stopped, Recovered, Fault, NoRecorder, claims_of, was_begun, Step}

-- the answer of a reply and the content of the data file
abbrev pub outcome : Reply → List ℕ → Outcome
outcome replies.Done file = Done
outcome replies.Stopped file = Stopped file
outcome (replies.Recovered summary) file = Recovered summary file
outcome (replies.Refused fault) file = Fault fault
outcome replies.NoRecorder file = NoRecorder

-- the reply of an answer: the answer without its file
abbrev pub reply_in : Outcome → Reply
reply_in Done = replies.Done
reply_in (Stopped file) = replies.Stopped
reply_in (Recovered summary file) = replies.Recovered summary
reply_in (Fault fault) = replies.Refused fault
reply_in NoRecorder = replies.NoRecorder

-- the files stand for a list that may be recorded; or they hold nothing recorded, and the empty claim is present
abbrev pub KeepsClaim : List Claim → Contents → Type 0
KeepsClaim claims contents =
    ((list : List Recorded) × MayBe claims list × StandsFor list contents)
    ⊎ (IsTrue (has_none claims) × IsNothing contents)

-- The files are as the history allows: they keep one of its claims, and the data file is empty if no start was begun since the last
-- erasing.
pub record Fits (history : History) (contents : Contents) : Type 0 where
  pub keeps : KeepsClaim (claims_of history) contents
  pub empty : was_begun history ≡ false → contents.in_data ≡ []

-- whatever a power cut leaves is as the history allows
abbrev pub LeavesAllowed : History → Story → Type 0
LeavesAllowed history story = LeavesOnly (Fits history) story.now

-- the fewest calls of the device in a command that is done: an entry may wait in the page
abbrev pub fewest_calls : Command → Reply → ℕ
fewest_calls (commands.Start start) replies.Done = start_calls
fewest_calls (commands.Entry entry) replies.Stopped = fewest_stop_calls
fewest_calls commands.Commit replies.Done = fewest_commit_calls
fewest_calls commands.Recover (replies.Recovered summary) = fewest_recovery_calls
fewest_calls commands.Reopen replies.Done = fewest_resume_calls
fewest_calls commands.Erase replies.Done = empty_calls
fewest_calls command reply = 0

-- and the most, whatever the reply is
abbrev pub most_calls : Command → ℕ
most_calls (commands.Start start) = start_calls
most_calls (commands.Entry entry) = if is_stop (Added entry) then stop_calls else entry_calls
most_calls commands.Commit = most_commit_calls
most_calls commands.Recover = recovery_calls + most_body_reads
most_calls commands.Reopen = resume_calls + most_body_reads
most_calls commands.Erase = erase_calls
most_calls command = 0

-- So many calls of the device were made in this command. `Device` is replied if and only if one of them failed, and that was the last.
pub record IsCounted (command : Command) (reply : Reply) (old new : Counts) : Type 0 where
  pub cause : reply ≡ replies.Refused Device → HasFailed old new
  pub went : (reply ≡ replies.Refused Device → ⊥) → new.failed ≡ old.failed
  pub fewest : MakesAtLeast (fewest_calls command reply) old new
  pub most : new.calls ≤ old.calls + most_calls command

module _ {D : Type 0} where
  -- what reads give of the data file if no recorder runs, and otherwise nothing
  abbrev pub content_of : (D → Story) → Ride D → List ℕ
  content_of story (rides.Idle disk) = seen_of Data (story disk)
  content_of story (rides.Riding recorder) = []

  -- The recorder was handed this list, which has no stop, and so many of its entries are committed. Unless it was reopened, its
  -- slots take turns.
  pub record RidesOn (honest : Bool) (story : D → Story) (recorder : Recorder D)
      (list : List Recorded) (promise : ℕ) (reopened : Bool) : Type 0 where
    pub committed : List Recorded
    pub rest : List Recorded
    pub begins : list ≡ committed ++ rest
    pub promised : promise ≡ length committed
    pub stands : StandsAt honest story recorder list committed
    pub going : has_failed recorder ≡ false
    pub no_stop : has_stopped list ≡ false
    pub turns : reopened ≡ false → slots_left (journal_slots recorder) ≡ None

  abbrev pub StandsIn : Bool → (D → Story) → Ride D → History → Type 0
  StandsIn honest story (rides.Idle disk) (Idle claims begun) =
      LeavesAllowed (Idle claims begun) (story disk)
  StandsIn honest story (rides.Riding recorder) (Riding list promise reopened false) =
      RidesOn honest story recorder list promise reopened
  StandsIn honest story (rides.Riding recorder) (Riding list promise reopened true) =
      (has_failed recorder ≡ true)
      × LeavesAllowed (Riding list promise reopened true) (story (disk_of recorder))
  StandsIn honest story (rides.Idle disk) (Riding list promise reopened failed) = ⊥
  StandsIn honest story (rides.Riding recorder) (Idle claims begun) = ⊥

  -- the reply may come to the command, and the ride is in the state of the history after it
  pub record TakesStepFrom (honest : Bool) (story : D → Story) (before : History)
      (command : Command) (reply : Reply) (ride : Ride D) : Type 0 where
    pub after : History
    pub step : Step before command (outcome reply (content_of story ride)) after
    pub stands : StandsIn honest story ride after
