-- The form of the journal that a start begins stays until an erasing: the calls of a ride keep its head.
use Rattle.std.proofs.Common.{◌≡◌, ⊎_elim, ℕ, Bool, true, false, List, [], take, Result, refl, sym, ◌∙◌, ap, subst}
use Rattle.std.specs.Prelude.{IsTrue, ◌≢◌}
use Rattle.fit_activity.specs.declared.recording.refusal.Refusal.{Refusal}
use Rattle.fit_activity.specs.declared.recording.start.Start.{Start}
use Rattle.fit_activity.specs.Rides.Recording.{Recorded}
use Rattle.fit_disk.specs.Calls.{IsSound}
use Rattle.fit_disk.specs.Stored.{Stored, Left}
use Rattle.fit_disk.specs.State.{BothLeft, seen_in}
use Rattle.fit_disk.specs.Story.{Story, seen_of}
use Rattle.fit_disk.specs.declared.disk.Which.TheVariants.{Data}
use Rattle.fit_disk.proofs.Leaving.{rest_left}
use Rattle.fit_disk.proofs.Moments.{at_end}
use Rattle.fit_journal.specs.declared.slots.Slots.{Slots}
use Rattle.fit_journal.specs.Form.{form_of}
use Rattle.fit_journal.specs.Moments.{KeepsHead}
use Rattle.fit_journal.specs.Standing.{Ready, Stands, fresh_journal}
use Rattle.fit_journal.specs.Turn.{committed_slots, fresh_slots}
use Rattle.fit_recorder.specs.declared.fault.RecFault.{RecFault}
use Rattle.fit_recorder.specs.declared.fault.RecFault.TheVariants.{NotEmpty, Refused, Full, JournalFull, Device, Failed, NothingRecorded, Damaged}
use Rattle.fit_recorder.specs.declared.recorder.Recorder.{Recorder}
use Rattle.fit_recorder.specs.Calls.After.{AfterCall}
use Rattle.fit_recorder.specs.Calls.Answers.{StartAnswers}
use Rattle.fit_recorder.specs.Calls.Recorder.{StandsAt, data_checksum, data_len, disk_of, journal_slots}
use Rattle.fit_recorder.specs.Calls.Recovery.{KeepsJournal}
use Rattle.fit_recorder.specs.Calls.Start.{InStart}
use Rattle.fit_histories.specs.declared.command.Command.TheVariants as commands
use Rattle.fit_histories.specs.declared.reply.Reply.TheVariants as replies
use Rattle.fit_histories.specs.declared.ride.Ride.TheVariants as rides
use Rattle.fit_histories.specs.Histories.Table.{History, Idle, Riding}
use Rattle.fit_histories.specs.Rides.Begun.{BeginsForm, LeavesForm}
use Rattle.fit_histories.specs.Rides.Standing.{StandsIn}

module _ (checked : Bool) (old new : Story) (sound : IsSound old.now) (before : LeavesForm checked old) where
  -- what a power cut leaves of the journal, it could leave before
  by_journal : ((journal : List ℕ) → Left new.now.journal_file journal → Left old.now.journal_file journal) → LeavesForm checked new
  by_journal could c left = before (record { in_data = old.now.data_file.seen; in_journal = c.in_journal }) (record { data_left = sound.data_left; journal_left = could c.in_journal left.journal_left })

  pub same_form : new.now.journal_file ≡ old.now.journal_file → LeavesForm checked new
  same_form same = by_journal (λ journal left. subst (λ (file : Stored). Left file journal) same left)

  pub synced_form : KeepsJournal old new → LeavesForm checked new
  synced_form keeps = by_journal (λ journal left. ⊎_elim
      (λ same. subst (λ (file : Stored). Left file journal) same left)
      (λ rests. subst (Left old.now.journal_file) (sym (rest_left new.now.journal_file old.now.journal_file.seen journal rests left)) sound.journal_left)
      keeps)

  pub headed_form : KeepsHead old new → LeavesForm checked new
  headed_form keeps c left = ap form_of (keeps.same c.in_journal left.journal_left) ∙ before (seen_in old.now) sound

-- the start is in the first slot of a new journal, whose head states its form
fresh_form : (checked : Bool) (len checksum : ℕ) (journal : List ℕ) → Ready (committed_slots (fresh_slots checked) len checksum) journal → form_of (take 8 journal) ≡ form_of (take 8 (fresh_journal checked))
unfolding form_of
fresh_form true len checksum journal ready = ready.triple.form
fresh_form false len checksum journal ready = ready.pair.form

begun_form : (checked : Bool) (slots : Slots) (len checksum : ℕ) (story : Story) → Stands slots story.now.journal_file → slots ≡ committed_slots (fresh_slots checked) len checksum
    → LeavesForm checked story
begun_form checked slots len checksum story stands is c left =
    let ready = subst (λ slots. Ready slots story.now.journal_file.seen) is stands.ready in
    ap (λ (journal : List ℕ). form_of (take 8 journal)) (rest_left story.now.journal_file story.now.journal_file.seen c.in_journal stands.rest left.journal_left) ∙ fresh_form checked len checksum story.now.journal_file.seen ready

-- a start that was refused
pub refused_form : (checked : Bool) (start : Start) (old new : Story) (fault : RecFault) → StartAnswers start fault → ((refusal : Refusal) → fault ≡ Refused refusal → new ≡ old)
    → (fault ≡ NotEmpty → seen_of Data old ≢ []) → InStart start old new → BeginsForm checked (commands.Start start) (replies.Refused fault) old new
refused_form checked start old new (Refused refusal) answers same not_empty run = λ form. subst (LeavesForm checked) (sym (same refusal refl)) form
refused_form checked start old new NotEmpty answers same not_empty run = λ form c left.
    let found : new ≡ run.found = ⊎_elim (λ is. is) (λ begun. absurd (not_empty refl begun.0)) run.after in
    form c (at_end (BothLeft old.now) old run.found run.before c (subst (λ (story : Story). BothLeft story.now c) found left))
refused_form checked start old new Device answers same not_empty run = tt
refused_form checked start old new Full answers same not_empty run = absurd answers
refused_form checked start old new JournalFull answers same not_empty run = absurd answers
refused_form checked start old new Failed answers same not_empty run = absurd answers
refused_form checked start old new NothingRecorded answers same not_empty run = absurd answers
refused_form checked start old new Damaged answers same not_empty run = absurd answers

module _ {D : Type 0} (honest : Bool) (story : D → Story) (so : IsTrue honest) (checked : Bool) where
  -- a recorder has begun
  pub started_form : (recorder : Recorder D) (list committed : List Recorded) → StandsAt honest story recorder list committed
      → journal_slots recorder ≡ committed_slots (fresh_slots checked) (data_len recorder) (data_checksum recorder) → LeavesForm checked (story (disk_of recorder))
  started_form recorder list committed at is =
      begun_form checked (journal_slots recorder) (data_len recorder) (data_checksum recorder) (story (disk_of recorder)) (at.holds so).stored.stored.journal is

  -- a call of a recorder keeps the head, and one after a failure changes nothing
  pub called_form : (old new : Recorder D) (result : Result (Unit {0}) RecFault) → AfterCall honest story result old new
      → ((list committed : List Recorded) → StandsAt honest story old list committed → KeepsHead (story (disk_of old)) (story (disk_of new)))
      → (before : History) → StandsIn honest story (rides.Riding old) before → IsSound (story (disk_of old)).now
      → LeavesForm checked (story (disk_of old)) → LeavesForm checked (story (disk_of new))
  called_form old new result after head (Idle claims begun) none sound form = absurd none
  called_form old new result after head (Riding list promise reopened false) on sound form =
      headed_form checked (story (disk_of old)) (story (disk_of new)) sound form (head list on.committed on.stands)
  called_form old new result after head (Riding list promise reopened true) broken sound form =
      ⊎_elim (λ device. absurd cc) (λ same. subst (λ recorder. LeavesForm checked (story (disk_of recorder))) (sym same) form) (rw (after.failed broken.0) at after.same)
