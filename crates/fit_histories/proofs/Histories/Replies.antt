-- The reply of a ride is the answer of its recorder: for the calls of a ride.
use Rattle.std.proofs.Common.{◌≡◌, ◌≤◌, ◌+◌, ◌∙◌, ap, arith, refl, sym, true≢false, false, ℕ, Bool, Result, Ok, Err, OnOk}
use Rattle.std.specs.Prelude.{IfErr, IsErr, IsErrOf}
use Rattle.fit_activity.specs.declared.activity.Summary.{Summary}
use Rattle.fit_activity.specs.declared.recording.entry.Entry.{Entry}
use Rattle.fit_activity.specs.Rides.Recording.{Added, is_stop}
use Rattle.fit_disk.specs.Counts.{Counts, Log}
use Rattle.fit_disk.specs.Runs.{MakesAtLeast, MakesAtMost}
use Rattle.fit_disk.specs.Story.{Story}
use Rattle.fit_recorder.specs.declared.fault.RecFault.{RecFault}
use Rattle.fit_recorder.specs.declared.fault.RecFault.TheVariants.{NotEmpty, Refused, Full, JournalFull, Device, Failed, NothingRecorded, Damaged}
use Rattle.fit_recorder.specs.declared.recorder.Recorder.{Recorder}
use Rattle.fit_recorder.specs.Calls.After.{AfterCall}
use Rattle.fit_recorder.specs.Calls.Counts.{entry_calls, fewest_recovery_calls, most_body_reads, recovery_calls}
use Rattle.fit_recorder.specs.Calls.Recovery.{IsRecoveryFault}
use Rattle.fit_histories.specs.declared.command.Command.{Command}
use Rattle.fit_histories.specs.declared.command.Command.TheVariants as commands
use Rattle.fit_histories.specs.declared.reply.Reply.{Reply}
use Rattle.fit_histories.specs.declared.reply.Reply.TheVariants.{Done}
use Rattle.fit_histories.specs.declared.reply.Reply.TheVariants as replies
use Rattle.fit_histories.specs.declared.ride.Ride.TheVariants.{Riding}
use Rattle.fit_histories.specs.Rides.Ride.{Answered}
use Rattle.fit_histories.specs.Rides.Standing.{IsCounted, fewest_calls, most_calls}
use Rattle.fit_histories.specs.Rides.Replies.{Replies, RepliesRecovery, reply_of, recovered_of, is_ok}

pub replies_of_call : (known : Result (Unit {0}) RecFault → Type 0) (done : Result (Unit {0}) RecFault) (reply : Reply) →
    reply ≡ reply_of done → known done → Replies known reply
replies_of_call known (Ok unit) reply is holds = rw is holds
replies_of_call known (Err fault) reply is holds = rw is holds

-- what a call promises for Ok holds if the ride replied `Done`
pub done_of_call : (done : Result (Unit {0}) RecFault) (reply : Reply) (A : Type 0) → reply ≡ reply_of done →
    OnOk done A → reply ≡ Done → A
done_of_call (Ok unit) reply A is holds ok = holds
done_of_call (Err fault) reply A is holds ok = absurd (true≢false (sym (ap is_ok ok) ∙ ap is_ok is))

-- what holds after a call of the recorder that runs
pub answered_by : {D : Type 0} (honest : Bool) (story : D → Story) (old new : Recorder D) (result : Result (Unit {0}) RecFault)
    → AfterCall honest story result old new → (reply : Reply) → reply ≡ reply_of result → Answered honest story reply (Riding old) (Riding new)
answered_by honest story old new (Ok done) after reply is = record {
  goes_on = after.goes_on;
  none = (λ none. absurd cc, λ idle. absurd (true≢false idle));
  failed = λ broken. (let clash : Ok done ≡ Err Failed = after.failed broken in absurd cc);
  broken = λ _ device. absurd cc;
}
answered_by honest story old new (Err fault) after reply is = record {
  goes_on = after.goes_on;
  none = (λ none. absurd cc, λ idle. absurd (true≢false idle));
  failed = λ broken. (let failed : Err fault ≡ Err Failed = after.failed broken in cc);
  broken = λ _ device. (let same : Err fault ≡ Err Device = cc in after.gone same);
}

-- the fault replied to a recovery is one that a recovery has
pub replies_recovery : (done : Result Summary RecFault) → IfErr done IsRecoveryFault → RepliesRecovery (recovered_of done)
replies_recovery (Ok summary) known = tt
replies_recovery (Err Device) known = tt
replies_recovery (Err NothingRecorded) known = tt
replies_recovery (Err Damaged) known = tt
replies_recovery (Err NotEmpty) known = known
replies_recovery (Err (Refused refusal)) known = known
replies_recovery (Err Full) known = known
replies_recovery (Err JournalFull) known = known
replies_recovery (Err Failed) known = known

-- `Device` is replied only if the call's fault is `Device`
device_outcome : (result : Result (Unit {0}) RecFault) → reply_of result ≡ replies.Refused Device → IsErrOf result Device
device_outcome (Ok done) is = absurd cc
device_outcome (Err fault) is = cc

-- the fewest calls of a command that is done
fewest_of : (command : Command) (result : Result (Unit {0}) RecFault) (reply : Reply) (old new : Counts) → reply ≡ reply_of result → old.calls ≤ new.calls
    → ((fault : RecFault) → fewest_calls command (replies.Refused fault) ≡ 0) → OnOk result (MakesAtLeast (fewest_calls command Done) old new) → MakesAtLeast (fewest_calls command reply) old new
fewest_of command (Ok done) reply old new is more none fewest = rw is fewest
fewest_of command (Err fault) reply old new is more none fewest = rw (is, none fault) (omega (arith, more))

-- and the reply is counted as the call was
pub counted_by : {reads : ℕ} (command : Command) (result : Result (Unit {0}) RecFault) (reply : Reply) (old new : Log) → reply ≡ reply_of result
    → MakesAtMost (most_calls command) reads (IsErrOf result Device) old new → ((fault : RecFault) → fewest_calls command (replies.Refused fault) ≡ 0)
    → OnOk result (MakesAtLeast (fewest_calls command Done) old.counts new.counts) → IsCounted command reply old.counts new.counts
counted_by command result reply old new is run none fewest = record {
  cause = λ device. run.cause (device_outcome result (sym is ∙ device));
  went = λ other. run.went (λ failed. other (is ∙ ap reply_of failed));
  fewest = fewest_of command result reply old.counts new.counts is run.no_fewer none fewest;
  most = run.at_most;
}

-- an entry that is no stop makes at most one call
pub entry_ran : {reads : ℕ} {Failed : Type 0} (entry : Entry) (old new : Log) → is_stop (Added entry) ≡ false → MakesAtMost entry_calls reads Failed old new
    → MakesAtMost (most_calls (commands.Entry entry)) reads Failed old new
entry_ran entry old new other run = rw other run

-- the same for a recovery
recovery_device : (result : Result Summary RecFault) → recovered_of result ≡ replies.Refused Device → IsErrOf result Device
recovery_device (Ok summary) is = absurd cc
recovery_device (Err fault) is = cc

fewest_of_recovery : (result : Result Summary RecFault) (reply : Reply) (old new : Counts) → reply ≡ recovered_of result → old.calls ≤ new.calls
    → OnOk result (MakesAtLeast fewest_recovery_calls old new) → MakesAtLeast (fewest_calls commands.Recover reply) old new
fewest_of_recovery (Ok summary) reply old new is more fewest = rw is fewest
fewest_of_recovery (Err fault) reply old new is more fewest = rw is (omega (arith, more))

pub recovery_counted : {reads : ℕ} (result : Result Summary RecFault) (reply : Reply) (old new : Log) → reply ≡ recovered_of result
    → MakesAtMost (recovery_calls + most_body_reads) reads (IsErrOf result Device) old new → OnOk result (MakesAtLeast fewest_recovery_calls old.counts new.counts)
    → IsCounted commands.Recover reply old.counts new.counts
recovery_counted result reply old new is run fewest = record {
  cause = λ device. run.cause (recovery_device result (sym is ∙ device));
  went = λ other. run.went (λ failed. other (is ∙ ap recovered_of failed));
  fewest = fewest_of_recovery result reply old.counts new.counts is run.no_fewer fewest;
  most = run.at_most;
}

-- an erasing fails by its device alone
is_device : (result : Result (Unit {0}) RecFault) → IfErr result (λ fault. fault ≡ Device) → IsErr result → IsErrOf result Device
is_device (Ok done) known failed = absurd cc
is_device (Err fault) known failed = ap (λ (fault : RecFault). Err fault) known

is_failure : (result : Result (Unit {0}) RecFault) → IsErrOf result Device → IsErr result
is_failure (Ok done) is = absurd cc
is_failure (Err fault) is = refl

pub erase_ran : {most reads : ℕ} (result : Result (Unit {0}) RecFault) (old new : Log) → IfErr result (λ fault. fault ≡ Device) → MakesAtMost most reads (IsErr result) old new
    → MakesAtMost most reads (IsErrOf result Device) old new
erase_ran result old new known run = record {
  no_fewer = run.no_fewer;
  at_most = run.at_most;
  few_reads = run.few_reads;
  cause = λ device. run.cause (is_failure result device);
  went = λ other. run.went (λ failed. other (is_device result known failed));
  planned = run.planned;
  memory = run.memory;
}
