-- What the calls of a recorder leave of both files: for `ride`.
use Rattle.std.proofs.Common.{◌≡◌, ◌⊎◌, Result, Ok, Err, ap, refl, inl, inr}
use Rattle.std.specs.Prelude.{IfErr, ◌≢◌, []}
use Rattle.fit_activity.specs.declared.recording.refusal.Refusal.{Refusal}
use Rattle.fit_activity.specs.declared.recording.start.Start.{Start}
use Rattle.fit_disk.specs.State.{seen_in}
use Rattle.fit_disk.specs.Story.{Story, seen_of}
use Rattle.fit_disk.specs.declared.disk.Which.TheVariants.{Data}
use Rattle.fit_recorder.specs.Calls.Recorder.{disk_of}
use Rattle.fit_recorder.specs.Calls.Start.{InStart}
use Rattle.fit_recorder.specs.declared.fault.RecFault.{RecFault}
use Rattle.fit_recorder.specs.declared.fault.RecFault.TheVariants.{NotEmpty, Refused, Device}
use Rattle.fit_recorder.specs.declared.recorder.Recorder.{Recorder}
use Rattle.fit_histories.specs.declared.reply.Reply.{Reply}
use Rattle.fit_histories.specs.declared.reply.Reply.TheVariants as replies
use Rattle.fit_histories.specs.Rides.Left.{KeptIfRefused, LeftByStart}
use Rattle.fit_histories.specs.Rides.Replies.{reply_of}

-- a recorder is unchanged by a refusal other than `Device`
pub kept_if_refused : {D : Type 0} (story : D → Story) (old new : Recorder D) (result : Result (Unit {0}) RecFault) (reply : Reply) →
    reply ≡ reply_of result → IfErr result (λ fault. (fault ≡ Device) ⊎ (new ≡ old)) → KeptIfRefused reply (story (disk_of old)) (story (disk_of new))
kept_if_refused story old new (Ok done) reply is same refused other = absurd cc
kept_if_refused story old new (Err fault) reply is (inl device) refused other = absurd (other cc)
kept_if_refused story old new (Err fault) reply is (inr same) refused other = ap (λ recorder. story (disk_of recorder)) same

-- a start that was refused
pub start_refused : (start : Start) (old new : Story) (fault : RecFault) → ((refusal : Refusal) → fault ≡ Refused refusal → new ≡ old) →
    (fault ≡ NotEmpty → (seen_of Data old ≢ []) × (seen_in new.now ≡ seen_in old.now)) → InStart start old new →
    LeftByStart start (replies.Refused fault) old new
start_refused start old new (Refused refusal) same not_empty moments = same refusal refl
start_refused start old new NotEmpty same not_empty moments = not_empty refl
start_refused start old new fault same not_empty moments = moments
