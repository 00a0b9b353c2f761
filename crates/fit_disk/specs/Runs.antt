-- Several calls of a disk, counted together.
use Rattle.std.specs.Prelude.{◌≡◌, ℕ, ◌+◌, ◌≤◌}
use Rattle.fit_disk.specs.Counts.{Counts, Log, HasFailed, last_count}

-- so many calls were made, and none failed
pub record MakesAll (made : ℕ) (old new : Counts) : Type 0 where
  pub calls : new.calls ≡ old.calls + made
  pub failed : new.failed ≡ old.failed

-- at least so many calls were made
abbrev pub MakesAtLeast : ℕ → Counts → Counts → Type 0
MakesAtLeast fewest old new = old.calls + fewest ≤ new.calls

-- What a run of calls did. At most so many were made, and at most so many of them read the data file. If it reports a failure, one
-- call failed, the last one; else none did. The schedule and the caller's memory are unchanged.
pub record MakesAtMost (most reads : ℕ) (Failed : Type 0) (old new : Log) : Type 0 where
  pub no_fewer : old.counts.calls ≤ new.counts.calls
  pub at_most : new.counts.calls ≤ old.counts.calls + most
  pub few_reads : new.counts.data_reads ≤ old.counts.data_reads + reads
  pub cause : Failed → HasFailed old.counts new.counts
  pub went : (Failed → ⊥) → new.counts.failed ≡ old.counts.failed
  pub planned : new.schedule ≡ old.schedule
  pub memory : new.memory ≡ old.memory

-- the same for a run that reads nothing of the data file and makes exactly so many calls, unless one fails
pub record MakesExactly (calls : ℕ) (Failed : Type 0) (old new : Log) : Type 0 where
  pub ran : MakesAtMost calls 0 Failed old new
  pub all : (Failed → ⊥) → new.counts.calls ≡ old.counts.calls + calls

-- A run takes at most so many calls and bytes from the room of a disk. If the disk had so much room, no call failed.
pub record TakesRoom (calls bytes : ℕ) (Failed : Type 0) (old new : Log) : Type 0 where
  pub went : old.counts.calls + calls ≤ last_count → calls ≤ old.room.calls → bytes ≤ old.room.bytes
      → Failed → ⊥
  pub calls_left : old.room.calls ≤ new.room.calls + calls
  pub bytes_left : old.room.bytes ≤ new.room.bytes + bytes

-- a run of writes, cuts and syncs: what it did, and the room that it took
pub record MakesWithin (most bytes : ℕ) (Failed : Type 0) (old new : Log) : Type 0 where
  pub ran : MakesAtMost most 0 Failed old new
  pub room : TakesRoom most bytes Failed old new
