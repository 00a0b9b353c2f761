-- A recovery that reads the data file by windows.
use Rattle.std.specs.Prelude.{◌≡◌, ◌⊎◌, ◌+◌, ◌-◌, ◌<◌, ◌≤◌, min, ℕ, List, length, take, drop, Option, Some, None, Result, Ok, Err, IfErr}
use Rattle.fit_disk.specs.Counts.{Log, last_count}
use Rattle.fit_disk.specs.State.{seen_in}
use Rattle.fit_disk.specs.Story.{Story, seen_of}
use Rattle.fit_disk.specs.declared.disk.Which.TheVariants.{Data}
use Rattle.fit_journal.specs.Adopting.{Adopted, checksum_in}
use Rattle.fit_recorder.specs.Calls.Recovery.{RecoveryAnswers}
use Rattle.fit_recorder.specs.Calls.Resume.{IsResumeFault}
use Rattle.fit_recorder.specs.Files.Committed.{HasBody}
use Rattle.fit_recorder.specs.Files.Limits.{header_length, longest_spelling, most_records}
use Rattle.fit_recorder.specs.Files.Settled.{IsSettled}
use Rattle.fit_recorder.specs.Private.BodyRead.{HasHeardItems, HeardUpTo}
use Rattle.fit_recorder.specs.Private.Length.{CommitsLength}
use Rattle.fit_recorder.specs.Calls.Ride.{TakesUp, MayGoOn}
use Rattle.fit_recorder.specs.declared.fault.RecFault.{RecFault}
use Rattle.fit_recorder.specs.declared.fault.RecFault.TheVariants as faults
use Rattle.fit_recorder.specs.declared.resuming.FoundRide.{FoundRide}
use Rattle.fit_recorder.specs.declared.recovery.windows.Recovery.{Recovery}

-- it has heard some messages, at most one for each byte
abbrev pub CanReadOn : Recovery → Type 0
CanReadOn recovery =
    HeardUpTo recovery.reader recovery.replay × (recovery.reader.len ≤ most_records)

-- both files are at rest, so many bytes of the body are committed, the journal was adopted, and some items of the body were read
pub record ReadsBodyOn (story : Story) (recovery : Recovery) : Type 0 where
  pub settled : IsSettled (seen_in story.now) story
  pub committed : CommitsLength (seen_in story.now) recovery.reader.len
      (checksum_in recovery.journal)
  pub adopted : Adopted recovery.journal recovery.reader.len story.now.journal_file.seen
  pub heard : (body : List ℕ) → length body ≡ recovery.reader.len
      → HasBody body (seen_of Data story)
      → HasHeardItems recovery.reader recovery.replay body

-- where the next byte of the data file is that it has to read
abbrev pub place_of : Recovery → ℕ
place_of recovery = header_length + recovery.reader.at

-- a file has these bytes from that place on
abbrev pub AreAt : ℕ → List ℕ → List ℕ → Type 0
AreAt place bytes content = bytes ≡ take (length bytes) (drop place content)

-- It wants more bytes than it was given: so many of them were not all that are left, and the place has moved on by all of them but less
-- than an item.
pub record HasMoved (given : ℕ) (old new : Recovery) : Type 0 where
  pub can : CanReadOn new
  pub more : min given 512 < old.reader.len - old.reader.at
  pub far : old.reader.at + min given 512 < new.reader.at + longest_spelling

-- the outcome of a beginning: a body, of which no item was read, or what a recovery answers
abbrev pub FindsBody : Story → Recovery → Result (Unit {0}) RecFault → Type 0
FindsBody story recovery (Ok _) = ReadsBodyOn story recovery
FindsBody story recovery (Err fault) = RecoveryAnswers (seen_in story.now) story (Err fault)

-- The outcome of a step of a resume by windows: more bytes are wanted, and the recovery reads on; or the ride is taken up, or refused, which
-- changes nothing unless it is `Device`.
abbrev pub TakesUpOn : Story → Story → Recovery → Option (Result FoundRide RecFault) → Type 0
TakesUpOn old new recovery (Some taken) =
    TakesUp (seen_in old.now) new taken
    × IfErr taken (λ fault. (fault ≡ faults.Device) ⊎ (new ≡ old))
TakesUpOn old new recovery None = (new ≡ old) × ReadsBodyOn old recovery

-- what is known of it over any disk
abbrev pub MayTakeUpOn : Recovery → Option (Result FoundRide RecFault) → Type 0
MayTakeUpOn recovery (Some (Ok ride)) = MayGoOn ride
MayTakeUpOn recovery (Some (Err fault)) = IsResumeFault fault
MayTakeUpOn recovery None = CanReadOn recovery

-- the disk has room for so many calls with so many bytes
pub record HasRoomForCalls (calls bytes : ℕ) (log : Log) : Type 0 where
  pub counted : log.counts.calls + calls ≤ last_count
  pub for_calls : calls ≤ log.room.calls
  pub for_bytes : bytes ≤ log.room.bytes
