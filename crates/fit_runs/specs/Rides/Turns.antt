-- What a recording does and answers, line by line.
use Rattle.std.specs.Prelude.{◌≡◌, ◌≢◌, ◌⊎◌, ◌<◌, ℕ, ◌+◌, Bool, true, false, IsTrue, List, [], ◌∷◌, ◌++◌, length, Option, Some, None, Result, Ok, Err, OnOk, codes, if◌then◌else◌}
use Rattle.std.specs.Io.KnownBytes.{Appends, Consumes, IsAtEnd}
use Rattle.std.specs.List.{flat_map}
use Rattle.fit_activity.specs.Rides.Stretch.{end_time}
use Rattle.fit_disk.specs.Story.{Story}
use Rattle.fit_histories.specs.declared.command.Command.{Command}
use Rattle.fit_histories.specs.declared.command.Command.TheVariants.{Commit}
use Rattle.fit_histories.specs.declared.event.Event.{Event}
use Rattle.fit_files.specs.declared.fault.ReportFault.{ReportFault}
use Rattle.fit_files.specs.declared.fault.ReportFault.TheVariants.{Input}
use Rattle.fit_runs.specs.declared.recording.line_fault.LineFault.{LineFault}
use Rattle.fit_runs.specs.declared.recording.line_fault.LineFault.TheVariants.{Script, OnlySimulate, TooLong}
use Rattle.fit_scripts.specs.declared.script.fault.ScriptFaultKind.TheVariants.{Memory}
use Rattle.fit_runs.specs.declared.recording.session.Session.{Session}
use Rattle.fit_histories.specs.declared.reply.Reply.{Reply}
use Rattle.fit_histories.specs.Histories.Claims.{Claim}
use Rattle.fit_histories.specs.Histories.Table.{History, Idle, Riding, ended}
use Rattle.fit_runs.specs.Printed.FaultyLines.{faulty_text}
use Rattle.fit_runs.specs.Printed.ReplyLines.{line_text}
use Rattle.fit_runs.specs.Rides.Dues.{Shows, times_on, is_due}
use Rattle.fit_runs.specs.Rides.Played.{Passes}
use Rattle.fit_histories.specs.Rides.Begun.{LeavesForm, begun_after}
use Rattle.fit_histories.specs.Rides.Replies.{MayReplyAll, is_ok, rides_on}
use Rattle.fit_histories.specs.Rides.Ride.{disk_in, is_riding}
use Rattle.fit_histories.specs.Rides.Standing.{StandsIn, LeavesAllowed}
use Rattle.fit_scripts.specs.Scripts.Faults.{IsWrong}
use Rattle.fit_runs.specs.Rides.Heard.{lines_heard_in, lines_in}
use Rattle.fit_histories.specs.Commands.{is_simulated}
use Rattle.fit_scripts.specs.Scripts.Script.{meaning_of}

-- an event was run, with this reply, and this is the last time of the ride then; or the line with this number cannot be done
pub data Turn : Type 0 where
  Asked : Event → Reply → ℕ → Turn
  Faulty : ℕ → LineFault → Turn

-- ---- what turns are

abbrev pub turn_text : Turn → List ℕ
turn_text (Asked event reply last) = line_text event reply ++ codes "\n"
turn_text (Faulty number fault) = faulty_text number fault ++ codes "\n"

abbrev pub turns_text : List Turn → List ℕ
turns_text turns = flat_map turn_text turns

abbrev pub events_in : List Turn → List Event
events_in [] = []
events_in (Asked event reply last ∷ turns) = event ∷ events_in turns
events_in (Faulty number fault ∷ turns) = events_in turns

abbrev pub replies_in : List Turn → List Reply
replies_in [] = []
replies_in (Asked event reply last ∷ turns) = reply ∷ replies_in turns
replies_in (Faulty number fault ∷ turns) = replies_in turns

-- an answer that is not ok counts
abbrev pub refused_count : Turn → ℕ
refused_count (Asked event reply last) = if is_ok reply then 0 else 1
refused_count (Faulty number fault) = 1

abbrev pub refused_in : List Turn → ℕ
refused_in [] = 0
refused_in (turn ∷ turns) = refused_count turn + refused_in turns

-- whether a recorder runs after these turns
abbrev pub rides_after : Bool → List Turn → Bool
rides_after riding [] = riding
rides_after riding (Asked event reply last ∷ turns) =
    rides_after (rides_on riding event.command reply) turns
rides_after riding (Faulty number fault ∷ turns) = rides_after riding turns

-- the times since the last commit, after these turns
abbrev pub times_after : List ℕ → List Turn → List ℕ
times_after times [] = times
times_after times (Asked event reply last ∷ turns) =
    times_after (times_on times event.command (is_ok reply) last) turns
times_after times (Faulty number fault ∷ turns) = times_after times turns

-- ---- the turns of lines

-- what is wrong with a line
abbrev pub IsLineFault : List ℕ → LineFault → Type 0
IsLineFault line (Script kind) = kind ≢ Memory → IsWrong line kind
IsLineFault line OnlySimulate =
    (command : Command) × (meaning_of line ≡ Some (Some command)) × (is_simulated command ≡ true)
IsLineFault line TooLong = 4096 < length line

-- the command of the line with this number was run; or it cannot be done, and is answered with its fault
abbrev pub IsAnswer : ℕ → List ℕ → Turn → Type 0
IsAnswer number line (Asked event reply last) =
    (event.line ≡ number) × (meaning_of line ≡ Some (Some event.command))
    × (is_simulated event.command ≡ false)
IsAnswer number line (Faulty at fault) = (at ≡ number) × IsLineFault line fault

-- a commit that no line states
abbrev pub commit_at : ℕ → Event
commit_at number = record { line = number; command = Commit }

-- such a commit, or no turn
abbrev pub CommitsIfDue : Bool → ℕ → List Turn → Type 0
CommitsIfDue true number turns =
    (reply : Reply) × (last : ℕ) × (turns ≡ Asked (commit_at number) reply last ∷ [])
CommitsIfDue false number turns = turns ≡ []

-- a commit is due after this turn
abbrev pub is_due_after : Option ℕ → List ℕ → Turn → Bool
is_due_after every times (Asked event reply last) = is_due every times event.command (is_ok reply)
is_due_after every times (Faulty number fault) = false

-- the line with this number states no command, and has no turn; or it is answered, and a commit comes after it exactly if one is due
abbrev pub AnswersLine : Option ℕ → List ℕ → ℕ → List ℕ → List Turn → Type 0
AnswersLine every times number line turns =
    ((meaning_of line ≡ Some None) × (turns ≡ []))
    ⊎ ((answer : Turn) × (more : List Turn) × IsAnswer number line answer
    × CommitsIfDue (is_due_after every times answer) number more
    × (turns ≡ answer ∷ more))

-- lines that are numbered from here on, each with its turns
abbrev pub AnswersLines : Option ℕ → List ℕ → ℕ → List (List ℕ) → List Turn → Type 0
AnswersLines every times number [] turns = turns ≡ []
AnswersLines every times number (line ∷ lines) turns =
    (own : List Turn) × (rest : List Turn) × (turns ≡ own ++ rest)
    × AnswersLine every times number line own
    × AnswersLines every (times_after times own) (number + 1) lines rest

-- all these lines, and a commit after the last if a recorder runs then
pub record AnswersAll (every : Option ℕ) (lines : List (List ℕ)) (turns : List Turn) : Type 0 where
  pub own : List Turn
  pub end : List Turn
  pub split : turns ≡ own ++ end
  pub answers : AnswersLines every [] 1 lines own
  pub ends : CommitsIfDue (rides_after false own) (length lines + 1) end

-- the lines before the last, and the answer to the last
pub record AnswersUpTo (every : Option ℕ) (lines : List (List ℕ)) (turns : List Turn) : Type 0 where
  pub first : List (List ℕ)
  pub last : List ℕ
  pub lines_are : lines ≡ first ++ last ∷ []
  pub own : List Turn
  pub answer : Turn
  pub split : turns ≡ own ++ answer ∷ []
  pub answers : AnswersLines every [] 1 first own
  pub is_answer : IsAnswer (length first + 1) last answer

-- These lines, if the output failed: at the answer to the last, at a commit that was due after it, or at the commit at the end.
abbrev pub AnswersSome : Option ℕ → List (List ℕ) → List Turn → Type 0
AnswersSome every lines turns =
    AnswersUpTo every lines turns ⊎ AnswersLines every [] 1 lines turns
    ⊎ AnswersAll every lines turns

-- ---- what is printed

-- the text of all turns but the last was printed, and a part of that of the last
pub record PrintsPart (old new : Option (List ℕ)) (turns : List Turn) : Type 0 where
  pub before : List Turn
  pub last : Turn
  pub all : turns ≡ before ++ last ∷ []
  pub part : List ℕ
  pub rest : List ℕ
  pub cut : turn_text last ≡ part ++ rest
  pub printed : Appends old new (turns_text before ++ part)

-- the text of the turns was printed, or cut short
abbrev pub Prints : {X : Type 0} → Option (List ℕ) → Option (List ℕ) → Result X ReportFault
    → List Turn → Type 0
Prints old new (Ok done) turns = Appends old new (turns_text turns)
Prints old new (Err fault) turns = PrintsPart old new turns

-- ---- a whole recording

-- in this state the ride of a recorder, in which no call failed, ends at this time
abbrev pub EndsAt : History → ℕ → Type 0
EndsAt (Riding list promise reopened false) last = last ≡ end_time list
EndsAt _ last = Unit {0}

-- From `before`, the replies of these turns may come, one after another, and `after` is the state then. At each moment a power cut leaves
-- what the command of the turn may leave after the turns before it. Each turn has the last time of the ride.
abbrev pub GoesByTurns : History → Story → List Turn → History → Story → Type 0
GoesByTurns before old [] after new = (after ≡ before) × (new ≡ old)
GoesByTurns before old (Asked event reply last ∷ turns) after new =
    (next : History) × (mid : Story) × Passes before old event.command reply next mid
    × EndsAt next last × GoesByTurns next mid turns after new
GoesByTurns before old (Faulty number fault ∷ turns) after new =
    GoesByTurns before old turns after new

-- a journal that a start of these turns began has checksums
abbrev pub ChecksIfBegun : List Turn → Story → Type 0
ChecksIfBegun turns story =
    begun_after false (events_in turns) (replies_in turns) ≡ true → LeavesForm true story

-- The turns came, and after the end of the recorder that runs the disk is as the history allows. A journal that a start began has
-- checksums.
pub record LeftByTurns (before : History) (old new : Story) (turns : List Turn) : Type 0 where
  pub after : History
  pub goes : GoesByTurns before old turns after new
  pub rests : LeavesAllowed (ended after) new
  pub form : ChecksIfBegun turns new

-- over an honest disk, from any state without a recorder that allows the disk as it was
abbrev pub LeavesByTurns : Bool → Story → Story → List Turn → Type 0
LeavesByTurns honest old new turns =
    IsTrue honest → (claims : List Claim) (begun : Bool) → LeavesAllowed (Idle claims begun) old
    → LeftByTurns (Idle claims begun) old new turns

-- The replies of these turns may come. Over an honest disk they are steps of a history, and the disk is as it allows.
pub record RepliesToAll (honest : Bool) (old new : Story) (turns : List Turn) : Type 0 where
  pub may : MayReplyAll false (events_in turns) (replies_in turns)
  pub leaves : LeavesByTurns honest old new turns

-- the output failed: of these bytes the first were done in these turns, whose text was cut short
abbrev pub BrokenOff : Bool → Story → Story → Option ℕ → List ℕ → List Turn → Option (List ℕ)
    → Option (List ℕ) → Type 0
BrokenOff honest old new every bytes turns before after =
    (heard : List ℕ) × (rest : List ℕ) × (bytes ≡ heard ++ rest)
    × AnswersSome every (lines_in heard) turns
    × RepliesToAll honest old new turns × PrintsPart before after turns

-- All these bytes were done in these turns, with a commit at the end if a recorder ran, and so many answers are not ok. If reads failed,
-- the bytes of a line that had not ended were not done.
abbrev pub Finishes : Bool → Story → Story → Option ℕ → List ℕ → List Turn → Option (List ℕ)
    → Option (List ℕ) → Result ℕ ReportFault → Type 0
Finishes honest old new every bytes turns before after (Ok refused) =
    AnswersAll every (lines_in bytes) turns
    × RepliesToAll honest old new turns × (refused ≡ refused_in turns)
    × Appends before after (turns_text turns)
Finishes honest old new every bytes turns before after (Err (Input why)) =
    AnswersAll every (lines_heard_in bytes).ended turns
    × RepliesToAll honest old new turns × Appends before after (turns_text turns)
Finishes honest old new every bytes turns before after (Err fault) =
    BrokenOff honest old new every bytes turns before after

-- so it went with all bytes that were read
abbrev pub RecordsBytes : Bool → Story → Story → Option ℕ → Option (List ℕ) → Option (List ℕ)
    → Option (List ℕ) → Option (List ℕ) → Result ℕ ReportFault → Type 0
RecordsBytes honest old new every from left before after result =
    (bytes : List ℕ) × Consumes from left bytes × OnOk result (IsAtEnd left)
    × (turns : List Turn) × Finishes honest old new every bytes turns before after result

-- ---- for the calls

-- a commit, if one is due; if the output failed, maybe none
abbrev pub CommitsUnlessBroken : {X : Type 0} → Result X ReportFault → Bool → ℕ → List Turn → Type 0
CommitsUnlessBroken (Ok done) due number turns = CommitsIfDue due number turns
CommitsUnlessBroken (Err fault) due number turns = CommitsIfDue due number turns ⊎ (turns ≡ [])

-- the turns of a line; if the output failed, maybe without the commit
abbrev pub TakesLine : {X : Type 0} → Result X ReportFault → Option ℕ → List ℕ → ℕ → List ℕ
    → List Turn → Type 0
TakesLine result every times number line turns =
    ((meaning_of line ≡ Some None) × (turns ≡ []))
    ⊎ ((answer : Turn) × (more : List Turn) × IsAnswer number line answer
    × CommitsUnlessBroken result (is_due_after every times answer) number more
    × (turns ≡ answer ∷ more))

module _ {D : Type 0} where
  -- The state after these turns, from an idle disk with this story.
  pub record SoFar (honest : Bool) (story : D → Story) (every : Option ℕ) (old : Story)
      (turns : List Turn) (session : Session D) : Type 0 where
    pub may : MayReplyAll false (events_in turns) (replies_in turns)
    pub riding : is_riding session.ride ≡ rides_after false turns
    pub counted : session.refused ≡ refused_in turns
    pub clock : Shows every (times_after [] turns) session.clock
    pub stood : IsTrue honest → (claims : List Claim) (begun : Bool)
        → LeavesAllowed (Idle claims begun) old →
        (after : History)
        × GoesByTurns (Idle claims begun) old turns after (story (disk_in session.ride))
        × StandsIn honest story session.ride after
        × ChecksIfBegun turns (story (disk_in session.ride))
