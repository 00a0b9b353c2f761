-- What contracts see of a ride.
use Rattle.std.specs.Prelude.{◌≡◌, ◌↔◌, ℕ, Bool, true, false, List, [], ◌∷◌, ◌++◌}
use Rattle.fit_activity.specs.declared.recording.entry.Entry.TheVariants as entries
use Rattle.fit_activity.specs.Rides.Recording.{Recorded, Started, Added, is_stop}
use Rattle.fit_disk.specs.Counts.{Log}
use Rattle.fit_disk.specs.Story.{Story}
use Rattle.fit_journal.specs.declared.slots.Slots.{Slots}
use Rattle.fit_journal.specs.Turn.{committed_slots, fresh_slots}
use Rattle.fit_recorder.specs.Calls.Answers.{HandAnswers, CommitAnswers, StopAnswers}
use Rattle.fit_recorder.specs.Calls.Recorder.{GoesOn, WasHanded, disk_of, has_failed, data_checksum, data_len, journal_slots}
use Rattle.fit_recorder.specs.declared.fault.RecFault.TheVariants.{Device, Failed}
use Rattle.fit_histories.specs.declared.reply.Reply.{Reply}
use Rattle.fit_histories.specs.declared.reply.Reply.TheVariants.{Done, Refused, NoRecorder}
use Rattle.fit_histories.specs.declared.command.Command.{Command}
use Rattle.fit_histories.specs.declared.command.Command.TheVariants as commands
use Rattle.fit_histories.specs.declared.ride.Ride.{Ride}
use Rattle.fit_histories.specs.declared.ride.Ride.TheVariants.{Idle, Riding}
use Rattle.fit_histories.specs.Rides.Replies.{Replies}
use Rattle.fit_histories.specs.Rides.Standing.{IsCounted}

module _ {D : Type 0} where
  -- its disk
  abbrev pub disk_in : Ride D → D
  disk_in (Idle disk) = disk
  disk_in (Riding recorder) = disk_of recorder

  -- a recorder runs
  abbrev pub is_riding : Ride D → Bool
  is_riding (Idle disk) = false
  is_riding (Riding recorder) = true

  -- a call of the device failed in the recorder that runs
  abbrev pub is_broken : Ride D → Bool
  is_broken (Idle disk) = false
  is_broken (Riding recorder) = has_failed recorder

  -- what a call of a ride did to its disk: so many calls were made, and the schedule is unchanged
  pub record Called (log : D → Log) (command : Command) (reply : Reply)
      (old new : Ride D) : Type 0 where
    pub counted : IsCounted command reply (log (disk_in old)).counts (log (disk_in new)).counts
    pub planned : (log (disk_in new)).schedule ≡ (log (disk_in old)).schedule

  -- every call of the recorder that runs may be made
  abbrev pub CanGoOn : Bool → (D → Story) → Ride D → Type 0
  CanGoOn honest story (Idle disk) = Unit {0}
  CanGoOn honest story (Riding recorder) = GoesOn honest story recorder

  -- What holds after a call that only a recorder answers: the next call may be made, the reply is `NoRecorder` if and only if none runs,
  -- and after `Device` every reply is `Failed`.
  pub record Answered (honest : Bool) (story : D → Story) (reply : Reply)
      (old new : Ride D) : Type 0 where
    pub goes_on : CanGoOn honest story new
    pub none : (reply ≡ NoRecorder) ↔ (is_riding old ≡ false)
    pub failed : is_broken old ≡ true → reply ≡ Refused Failed
    pub broken : is_riding old ≡ true → reply ≡ Refused Device → is_broken new ≡ true

  -- a recorder runs that was handed this list, and no call failed in it
  abbrev pub Handed : Ride D → List Recorded → Type 0
  Handed (Idle disk) list = ⊥
  Handed (Riding recorder) list = WasHanded recorder list × (has_failed recorder ≡ false)

  -- the number of record bytes that its recorder encoded
  abbrev pub encoded_len : Ride D → ℕ
  encoded_len (Idle disk) = 0
  encoded_len (Riding recorder) = data_len recorder

  -- and their checksum
  abbrev pub encoded_checksum : Ride D → ℕ
  encoded_checksum (Idle disk) = 0
  encoded_checksum (Riding recorder) = data_checksum recorder

  -- the slots of its journal; if no recorder runs, empty ones
  abbrev pub slots_of : Ride D → Slots
  slots_of (Idle disk) = fresh_slots false
  slots_of (Riding recorder) = journal_slots recorder

  -- what may be replied to a command after this list was handed in
  abbrev pub MayReplyAfter : Ride D → List Recorded → Command → Reply → Type 0
  MayReplyAfter ride list (commands.Entry entry) reply =
      (is_stop (Added entry) ≡ false → Replies (HandAnswers list (encoded_len ride) entry) reply)
      × ((time : ℕ) → entry ≡ entries.Stop time → Replies (StopAnswers list time) reply)
  MayReplyAfter ride list commands.Commit reply = Replies (CommitAnswers list (slots_of ride)) reply
  MayReplyAfter ride list _ reply = Unit {0}

  -- after a reply that is ok: an entry is at the end of the list, and a commit took one slot more
  abbrev pub RidesOnWith : Ride D → List Recorded → Command → Ride D → Type 0
  RidesOnWith ride list (commands.Entry entry) next =
      is_stop (Added entry) ≡ false → Handed next (list ++ Added entry ∷ [])
  RidesOnWith ride list commands.Commit next =
      Handed next list
      × (slots_of next ≡ committed_slots (slots_of ride) (encoded_len ride) (encoded_checksum ride))
  RidesOnWith ride list _ next = Unit {0}

  -- After a start that is ok the recorder was handed the start alone, in the first slot of a new journal, with its checksum if the
  -- journal is checked. After a reopening that is ok it was handed some list.
  abbrev pub HasBegun : Bool → Command → Ride D → Type 0
  HasBegun checked (commands.Start start) next =
      Handed next (Started start ∷ [])
      × (slots_of next
      ≡ committed_slots (fresh_slots checked) (encoded_len next) (encoded_checksum next))
  HasBegun checked commands.Reopen next = (list : List Recorded) × Handed next list
  HasBegun checked _ next = Unit {0}

  -- what a command replies and leaves of the list that was handed in
  pub record Rides (checked : Bool) (command : Command) (reply : Reply)
      (old new : Ride D) : Type 0 where
    pub after : (list : List Recorded) → Handed old list → MayReplyAfter old list command reply
    pub handed : (list : List Recorded) → Handed old list → reply ≡ Done
        → RidesOnWith old list command new
    pub begun : reply ≡ Done → HasBegun checked command new
