-- The replies that may come to a command, and how many replies are refusals.
use Rattle.std.specs.Prelude.{◌≡◌, ◌↔◌, ℕ, ◌+◌, Bool, true, false, List, [], ◌∷◌, None, Result, Ok, Err, if◌then◌else◌}
use Rattle.fit_activity.specs.declared.activity.Summary.{Summary}
use Rattle.fit_activity.specs.declared.recording.start.Start.{Start}
use Rattle.fit_activity.specs.Rides.Recording.{Added, is_stop}
use Rattle.fit_activity.specs.Rides.Refusal.{start_refusal}
use Rattle.fit_recorder.specs.declared.fault.RecFault.{RecFault}
use Rattle.fit_recorder.specs.declared.fault.RecFault.TheVariants.{Device, NothingRecorded, Damaged}
use Rattle.fit_recorder.specs.Calls.Answers.{StartAnswers}
use Rattle.fit_recorder.specs.Calls.Resume.{IsResumeFault}
use Rattle.fit_histories.specs.declared.reply.Reply.{Reply}
use Rattle.fit_histories.specs.declared.reply.Reply.TheVariants.{Done, Stopped, Recovered, Refused, NoRecorder}
use Rattle.fit_histories.specs.declared.command.Command.{Command}
use Rattle.fit_histories.specs.declared.command.Command.TheVariants as commands
use Rattle.fit_histories.specs.declared.event.Event.{Event}

abbrev pub is_ok : Reply → Bool
is_ok Done = true
is_ok Stopped = true
is_ok (Recovered summary) = true
is_ok (Refused fault) = false
is_ok NoRecorder = false

abbrev pub reply_of : {T : Type 0} → Result T RecFault → Reply
reply_of (Ok done) = Done
reply_of (Err fault) = Refused fault

-- the reply for the result of a recovery
abbrev pub recovered_of : Result Summary RecFault → Reply
recovered_of (Ok summary) = Recovered summary
recovered_of (Err fault) = Refused fault

-- the reply of a call whose result is known to be so
abbrev pub Replies : (Result (Unit {0}) RecFault → Type 0) → Reply → Type 0
Replies known Done = known (Ok tt)
Replies known Stopped = known (Ok tt)
Replies known (Refused fault) = known (Err fault)
Replies known _ = ⊥

-- to a start: done only if the rules allow it
abbrev pub RepliesStart : Start → Reply → Type 0
RepliesStart start Done = start_refusal start ≡ None
RepliesStart start (Refused fault) = StartAnswers start fault
RepliesStart start _ = ⊥

-- to a recovery
abbrev pub RepliesRecovery : Reply → Type 0
RepliesRecovery (Recovered summary) = Unit {0}
RepliesRecovery (Refused Device) = Unit {0}
RepliesRecovery (Refused NothingRecorded) = Unit {0}
RepliesRecovery (Refused Damaged) = Unit {0}
RepliesRecovery _ = ⊥

-- to a reopening
abbrev pub RepliesReopening : Reply → Type 0
RepliesReopening Done = Unit {0}
RepliesReopening (Refused fault) = IsResumeFault fault
RepliesReopening _ = ⊥

-- to an erasing
abbrev pub RepliesErasing : Reply → Type 0
RepliesErasing Done = Unit {0}
RepliesErasing (Refused Device) = Unit {0}
RepliesErasing _ = ⊥

-- ---- to any command

-- what may be replied to a command, if a recorder runs or if none does; a command that only `simulate` runs has no reply
abbrev pub MayReply : Bool → Command → Reply → Type 0
MayReply riding (commands.Start start) reply = RepliesStart start reply
MayReply riding (commands.Entry entry) reply = (reply ≡ NoRecorder) ↔ (riding ≡ false)
MayReply riding commands.Commit reply = (reply ≡ NoRecorder) ↔ (riding ≡ false)
MayReply riding commands.Restart reply = reply ≡ Done
MayReply riding commands.Recover reply = RepliesRecovery reply
MayReply riding commands.Reopen reply = RepliesReopening reply
MayReply riding commands.Erase reply = RepliesErasing reply
MayReply riding _ reply = ⊥

-- whether a recorder runs after the reply to a stop
abbrev pub outlives_stop : Bool → Reply → Bool
outlives_stop riding Stopped = false
outlives_stop riding _ = riding

-- whether one runs after the reply to a command
abbrev pub rides_on : Bool → Command → Reply → Bool
rides_on riding (commands.Start start) reply = is_ok reply
rides_on riding (commands.Entry entry) reply =
    if is_stop (Added entry) then outlives_stop riding reply else riding
rides_on riding commands.Commit reply = riding
rides_on riding commands.Reopen reply = is_ok reply
rides_on riding _ reply = false

-- each reply may come to the event at its place, if a recorder runs before them or if none does
abbrev pub MayReplyAll : Bool → List Event → List Reply → Type 0
MayReplyAll riding [] [] = Unit {0}
MayReplyAll riding (event ∷ events) (reply ∷ replies) =
    MayReply riding event.command reply
    × MayReplyAll (rides_on riding event.command reply) events replies
MayReplyAll riding _ _ = ⊥

-- the number of replies that were not ok
abbrev pub refusals : List Reply → ℕ
refusals [] = 0
refusals (reply ∷ replies) = if is_ok reply then refusals replies else refusals replies + 1
