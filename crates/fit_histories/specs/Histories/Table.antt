-- The table of histories: the states of a recording, and what may be answered to each command in each state.
use Rattle.std.specs.Prelude.{◌≡◌, ◌≢◌, ◌≤◌, ◌+◌, ℕ, Bool, true, false, IsTrue, List, [], ◌∷◌, ◌++◌, length, Some, None}
use Rattle.fit_grammar.specs.Format.File.{File}
use Rattle.fit_activity.specs.declared.activity.Summary.{Summary}
use Rattle.fit_activity.specs.declared.recording.entry.Entry.{Entry}
use Rattle.fit_activity.specs.declared.recording.entry.Entry.TheVariants.{Stop}
use Rattle.fit_activity.specs.declared.recording.refusal.Refusal.TheVariants as refusals
use Rattle.fit_activity.specs.declared.recording.start.Start.{Start}
use Rattle.fit_activity.specs.Files.Finished.{summary_of_list}
use Rattle.fit_activity.specs.Rides.Recording.{Recorded, Started, Added}
use Rattle.fit_activity.specs.Rides.Refusal.{Allowed, refusal_of, start_refusal, has_stopped}
use Rattle.fit_activity.specs.Messages.RideMessages.{spoken, closing}
use Rattle.fit_recorder.specs.declared.fault.RecFault.{RecFault}
use Rattle.fit_recorder.specs.declared.fault.RecFault.TheVariants.{NotEmpty, Refused, Full, JournalFull, Device, Failed, NothingRecorded}
use Rattle.fit_recorder.specs.Files.Limits.{header_length, most_records}
use Rattle.fit_histories.specs.declared.command.Command.{Command}
use Rattle.fit_histories.specs.declared.command.Command.TheVariants as commands
use Rattle.fit_histories.specs.Histories.Claims.{Claim, claim_of, no_claim, whole, has_none, MayBe, with_start}

-- the answer to a command: a stop that is done and a recovery report the content of the data file at that moment
pub data Outcome : Type 0 where
  Done : Outcome
  Stopped : List ℕ → Outcome
  Recovered : Summary → List ℕ → Outcome
  Fault : RecFault → Outcome
  NoRecorder : Outcome

-- The state of a history. `Idle`: no recorder runs; the claims, and whether a start was begun since the last erasing. `Riding`: a
-- recorder runs; the list that was handed in, how many of its entries are promised, whether it was reopened, and whether the device
-- failed in it.
pub data History : Type 0 where
  Idle : List Claim → Bool → History
  Riding : List Recorded → ℕ → Bool → Bool → History

-- the state before the first command
abbrev pub at_first : History
at_first = Idle (no_claim ∷ []) false

abbrev pub claims_of : History → List Claim
claims_of (Idle claims begun) = claims
claims_of (Riding list promise reopened failed) = claim_of list promise ∷ []

abbrev pub was_begun : History → Bool
was_begun (Idle claims begun) = begun
was_begun (Riding list promise reopened failed) = true

-- the recorder that runs, if one does, ends
abbrev pub ended : History → History
ended history = Idle (claims_of history) (was_begun history)

-- these bytes are a valid file of the messages of the list and those that close it
abbrev pub IsFileOf : List ℕ → List Recorded → Type 0
IsFileOf file list = File file (spoken list ++ closing list)

-- its records have at most 16,777,216 bytes
abbrev pub HasFewRecords : List ℕ → Type 0
HasFewRecords file = length file ≤ header_length + most_records + 2

-- ---- the steps: from `before` this may be answered, and `after` is the state then

abbrev pub StartStep : History → Start → Outcome → History → Type 0
StartStep before start Done after =
    IsTrue (has_none (claims_of before)) × (start_refusal start ≡ None)
    × (after ≡ Riding (Started start ∷ []) 1 false false)
StartStep before start (Fault (Refused refusal)) after =
    (start_refusal start ≡ Some refusal) × (after ≡ ended before)
StartStep before start (Fault NotEmpty) after =
    (start_refusal start ≡ None) × (was_begun before ≡ true) × (after ≡ ended before)
StartStep before start (Fault Device) after =
    (start_refusal start ≡ None) × (after ≡ Idle (with_start start (claims_of before)) true)
StartStep before start _ after = ⊥

-- to an entry that is not a stop
abbrev pub HandStep : History → Entry → Outcome → History → Type 0
HandStep (Idle claims begun) entry NoRecorder after = after ≡ Idle claims begun
HandStep (Riding list promise reopened false) entry Done after =
    Allowed (list ++ Added entry ∷ [])
    × (after ≡ Riding (list ++ Added entry ∷ []) promise reopened false)
HandStep (Riding list promise reopened false) entry (Fault (Refused refusal)) after =
    (refusal_of list entry ≡ Some refusal) × (after ≡ Riding list promise reopened false)
HandStep (Riding list promise reopened false) entry (Fault Full) after =
    (refusal_of list entry ≡ None) × (after ≡ Riding list promise reopened false)
HandStep (Riding list promise reopened false) entry (Fault Device) after =
    (refusal_of list entry ≡ None) × (after ≡ Riding list promise reopened true)
HandStep (Riding list promise reopened true) entry (Fault Failed) after =
    after ≡ Riding list promise reopened true
HandStep before entry _ after = ⊥

-- the journal can fill only in a ride that was reopened, because an older program may have begun it
abbrev pub CommitStep : History → Outcome → History → Type 0
CommitStep (Idle claims begun) NoRecorder after = after ≡ Idle claims begun
CommitStep (Riding list promise reopened false) Done after =
    after ≡ Riding list (length list) reopened false
CommitStep (Riding list promise reopened false) (Fault JournalFull) after =
    IsTrue reopened × (after ≡ Riding list promise reopened false)
CommitStep (Riding list promise reopened false) (Fault Device) after =
    after ≡ Riding list promise reopened true
CommitStep (Riding list promise reopened true) (Fault Failed) after =
    after ≡ Riding list promise reopened true
CommitStep before _ after = ⊥

abbrev pub StopStep : History → ℕ → Outcome → History → Type 0
StopStep (Idle claims begun) time NoRecorder after = after ≡ Idle claims begun
StopStep (Riding list promise reopened false) time (Stopped file) after =
    Allowed (list ++ Added (Stop time) ∷ []) × IsFileOf file (list ++ Added (Stop time) ∷ [])
    × HasFewRecords file × (after ≡ Idle (whole (list ++ Added (Stop time) ∷ []) ∷ []) true)
StopStep (Riding list promise reopened false) time (Fault (Refused refusal)) after =
    (refusal_of list (Stop time) ≡ Some refusal) × (after ≡ Riding list promise reopened false)
StopStep (Riding list promise reopened false) time (Fault Device) after =
    (refusal_of list (Stop time) ≡ None)
    × (after ≡ Riding (list ++ Added (Stop time) ∷ []) promise reopened true)
StopStep (Riding list promise reopened true) time (Fault Failed) after =
    after ≡ Riding list promise reopened true
StopStep before time _ after = ⊥

-- a recovery found this list; the summary and the file are those of the list
pub record Recovers (before : History) (summary : Summary) (file : List ℕ)
    (after : History) : Type 0 where
  pub list : List Recorded
  pub may_be : MayBe (claims_of before) list
  pub some : list ≢ []
  pub is_file : IsFileOf file list
  pub sums_up : summary ≡ summary_of_list list
  pub after_is : after ≡ Idle (whole list ∷ []) (was_begun before)

abbrev pub RecoverStep : History → Outcome → History → Type 0
RecoverStep before (Recovered summary file) after = Recovers before summary file after
RecoverStep before (Fault NothingRecorded) after =
    IsTrue (has_none (claims_of before)) × (after ≡ Idle (no_claim ∷ []) (was_begun before))
RecoverStep before (Fault Device) after = after ≡ ended before
RecoverStep before _ after = ⊥

-- this list is found, with a stop at its end or with none
pub record Finds (before : History) (list : List Recorded) (stopped : Bool) : Type 0 where
  pub may_be : MayBe (claims_of before) list
  pub some : list ≢ []
  pub stops : has_stopped list ≡ stopped

abbrev pub ReopenStep : History → Outcome → History → Type 0
ReopenStep before Done after =
    (list : List Recorded) × Finds before list false
    × (after ≡ Riding list (length list) true false)
ReopenStep before (Fault (Refused refusals.Stopped)) after =
    (list : List Recorded) × Finds before list true × (after ≡ ended before)
ReopenStep before (Fault NothingRecorded) after =
    IsTrue (has_none (claims_of before)) × (after ≡ Idle (no_claim ∷ []) (was_begun before))
ReopenStep before (Fault JournalFull) after =
    (list : List Recorded) × Finds before list false × (after ≡ ended before)
ReopenStep before (Fault Device) after = after ≡ ended before
ReopenStep before _ after = ⊥

abbrev pub EraseStep : History → Outcome → History → Type 0
EraseStep before Done after = after ≡ Idle (no_claim ∷ []) false
EraseStep before (Fault Device) after =
    after ≡ Idle (no_claim ∷ claims_of before) (was_begun before)
EraseStep before _ after = ⊥

abbrev pub EntryStep : History → Entry → Outcome → History → Type 0
EntryStep before (Stop time) outcome after = StopStep before time outcome after
EntryStep before entry outcome after = HandStep before entry outcome after

abbrev pub Step : History → Command → Outcome → History → Type 0
Step before (commands.Start start) outcome after = StartStep before start outcome after
Step before (commands.Entry entry) outcome after = EntryStep before entry outcome after
Step before commands.Commit outcome after = CommitStep before outcome after
Step before commands.Recover outcome after = RecoverStep before outcome after
Step before commands.Reopen outcome after = ReopenStep before outcome after
Step before commands.Erase outcome after = EraseStep before outcome after
Step before commands.Restart outcome after = (outcome ≡ Done) × (after ≡ ended before)
Step before commands.Power outcome after = (outcome ≡ Done) × (after ≡ ended before)
Step before (commands.Fail k) outcome after = (outcome ≡ Done) × (after ≡ before)
Step before (commands.Cut k) outcome after = (outcome ≡ Done) × (after ≡ before)
