-- What a command does to both files, over an honest disk: what is known of them from what they were before and from the reply.
use Rattle.std.specs.Prelude.{◌≡◌, ◌≢◌, ◌⊎◌, Bool, false, List, [], length, Result, IfErr}
use Rattle.fit_activity.specs.declared.activity.Summary.{Summary}
use Rattle.fit_activity.specs.declared.recording.start.Start.{Start}
use Rattle.fit_activity.specs.Rides.Recording.{Recorded, Added, is_stop}
use Rattle.fit_activity.specs.Rides.Refusal.{has_stopped}
use Rattle.fit_disk.specs.State.{seen_in}
use Rattle.fit_disk.specs.Stored.{at_rest}
use Rattle.fit_disk.specs.Story.{Story, Throughout, seen_of}
use Rattle.fit_disk.specs.declared.disk.Which.TheVariants.{Data}
use Rattle.fit_recorder.specs.declared.fault.RecFault.{RecFault}
use Rattle.fit_recorder.specs.declared.fault.RecFault.TheVariants.{NotEmpty, Refused, Device}
use Rattle.fit_recorder.specs.Files.Body.{StandsFor}
use Rattle.fit_recorder.specs.Files.Settled.{IsSettled}
use Rattle.fit_recorder.specs.Calls.Start.{InStart}
use Rattle.fit_recorder.specs.Calls.Recovery.{RecoveryAnswers, InRecovery, KeepsJournal}
use Rattle.fit_recorder.specs.Calls.Resume.{IsRefusedFor, cut_after}
use Rattle.fit_recorder.specs.Calls.Erasing.{LeftOrErased}
use Rattle.fit_histories.specs.declared.command.Command.{Command}
use Rattle.fit_histories.specs.declared.command.Command.TheVariants as commands
use Rattle.fit_histories.specs.declared.reply.Reply.{Reply}
use Rattle.fit_histories.specs.declared.reply.Reply.TheVariants as replies
use Rattle.fit_histories.specs.Rides.Replies.{recovered_of, is_ok}

-- a refusal other than for the device changes nothing
abbrev pub KeptIfRefused : Reply → Story → Story → Type 0
KeptIfRefused reply old new = is_ok reply ≡ false → reply ≢ replies.Refused Device → new ≡ old

-- only an entry that is a stop changes the journal
abbrev pub LeftByEntry : Bool → Reply → Story → Story → Type 0
LeftByEntry stops reply old new =
    KeptIfRefused reply old new × (stops ≡ false → new.now.journal_file ≡ old.now.journal_file)

-- a start is done only if reads gave no byte of the data file, and if they gave one, reads give the same as before
abbrev pub LeftByStart : Start → Reply → Story → Story → Type 0
LeftByStart start replies.Done old new = (seen_of Data old ≡ []) × InStart start old new
LeftByStart start (replies.Refused (Refused refusal)) old new = new ≡ old
LeftByStart start (replies.Refused NotEmpty) old new =
    (seen_of Data old ≢ []) × (seen_in new.now ≡ seen_in old.now)
LeftByStart start _ old new = InStart start old new

-- both files are at rest with what reads gave before
abbrev pub SettledUnlessDevice : RecFault → Story → Story → Type 0
SettledUnlessDevice fault old new = (fault ≡ Device) ⊎ IsSettled (seen_in old.now) new

-- what reads gave before decides what a recovery answers, and what it leaves
pub record LeftByRecovery (reply : Reply) (old new : Story) : Type 0 where
  pub result : Result Summary RecFault
  pub replied : reply ≡ recovered_of result
  pub answers : RecoveryAnswers (seen_in old.now) new result
  pub settled : IfErr result (λ fault. SettledUnlessDevice fault old new)
  pub moments : InRecovery old new
  pub journal : KeepsJournal old new

-- of a ride without a stop, its data file was cut after its body
pub record IsCutAfterBody (old new : Story) : Type 0 where
  pub list : List Recorded
  pub stood : StandsFor list (seen_in old.now)
  pub running : has_stopped list ≡ false
  pub cut : IsSettled (cut_after (length stood.body) (seen_in old.now)) new

-- the same for a reopening
abbrev pub ReopensBy : Reply → Story → Story → Type 0
ReopensBy (replies.Refused fault) old new =
    IsRefusedFor (seen_in old.now) fault × SettledUnlessDevice fault old new
ReopensBy _ old new = IsCutAfterBody old new

pub record LeftByReopening (reply : Reply) (old new : Story) : Type 0 where
  pub reopens : ReopensBy reply old new
  pub moments : InRecovery old new
  pub journal : KeepsJournal old new

-- after an erasing that is done the data file is empty, and at rest
pub record LeftByErasing (reply : Reply) (old new : Story) : Type 0 where
  pub empty : reply ≡ replies.Done → new.now.data_file ≡ at_rest []
  pub moments : Throughout (LeftOrErased old.now) old new

abbrev pub LeftBy : Command → Reply → Story → Story → Type 0
LeftBy (commands.Start start) reply old new = LeftByStart start reply old new
LeftBy (commands.Entry entry) reply old new = LeftByEntry (is_stop (Added entry)) reply old new
LeftBy commands.Commit reply old new = KeptIfRefused reply old new
LeftBy commands.Recover reply old new = LeftByRecovery reply old new
LeftBy commands.Reopen reply old new = LeftByReopening reply old new
LeftBy commands.Erase reply old new = LeftByErasing reply old new
LeftBy _ reply old new = new ≡ old
