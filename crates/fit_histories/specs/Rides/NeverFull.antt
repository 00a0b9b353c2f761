-- A ride whose journal never fills.
use Rattle.std.specs.Prelude.{◌≡◌, ◌≢◌, Bool, true, false, IsTrue, None}
use Rattle.fit_disk.specs.State.{LeavesOnly}
use Rattle.fit_disk.specs.Story.{Story}
use Rattle.fit_journal.specs.Turn.{slots_left}
use Rattle.fit_recorder.specs.declared.fault.RecFault.TheVariants.{JournalFull}
use Rattle.fit_recorder.specs.Files.NeverFull.{NeverFills}
use Rattle.fit_recorder.specs.Calls.Recorder.{disk_of, has_failed, journal_slots}
use Rattle.fit_histories.specs.declared.reply.Reply.{Reply}
use Rattle.fit_histories.specs.declared.reply.Reply.TheVariants.{Refused}
use Rattle.fit_histories.specs.declared.ride.Ride.{Ride}
use Rattle.fit_histories.specs.declared.ride.Ride.TheVariants.{Idle, Riding}
use Rattle.fit_histories.specs.Histories.Table.{History}
use Rattle.fit_histories.specs.Rides.Standing.{StandsIn}

module _ {D : Type 0} where
  -- The slots of the recorder that runs take turns. If none runs, or a call of its device failed, no crash leaves a journal that fills.
  abbrev pub NeverFull : (D → Story) → Ride D → Type 0
  NeverFull story (Idle disk) = LeavesOnly NeverFills (story disk).now
  NeverFull story (Riding recorder) =
      (has_failed recorder ≡ false → slots_left (journal_slots recorder) ≡ None)
      × (has_failed recorder ≡ true → LeavesOnly NeverFills (story (disk_of recorder)).now)

  -- the reply is not that the journal is full, and the journal never fills after it
  pub record NotFull (story : D → Story) (reply : Reply) (ride : Ride D) : Type 0 where
    pub not_full : reply ≢ Refused JournalFull
    pub never_full : NeverFull story ride

  -- a call in which that stays so
  abbrev pub StaysNeverFull : Bool → (D → Story) → Ride D → Reply → Ride D → Type 0
  StaysNeverFull honest story old reply new =
      IsTrue honest → (before : History) → StandsIn honest story old before → NeverFull story old
      → NotFull story reply new
