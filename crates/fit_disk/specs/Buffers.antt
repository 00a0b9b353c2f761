-- What two buffers show as a disk.
use Rattle.std.specs.Prelude.{◌≡◌, ℕ, ◌≤◌, ◌<◌, true, List, [], ◌∷◌, length}
use Rattle.fit_disk.specs.declared.buffers.Buffers.{Buffers}
use Rattle.fit_disk.specs.CallSchedule.{counts_of}
use Rattle.fit_disk.specs.declared.disk.Which.{Which}
use Rattle.fit_disk.specs.declared.disk.Which.TheVariants.{Data, Journal}
use Rattle.fit_disk.specs.Counts.{Counts, Log, no_calls, no_room, unplanned, last_count}
use Rattle.fit_disk.specs.Story.{Story}

abbrev pub story_in : Buffers → Story
story_in b = b.notes.story

abbrev pub counts_in : Buffers → Counts
counts_in b = counts_of b.counts

-- how many bytes a file may have
abbrev pub room_of : Which → Buffers → ℕ
room_of Data b = length b.data_bytes.now
room_of Journal b = length b.journal_bytes.now

-- which buffers these are, by the names of both borrows and their lengths
abbrev pub memory_of : Buffers → List ℕ
memory_of b =
    b.data_bytes.ghost_name ∷ b.journal_bytes.ghost_name ∷ room_of Data b ∷ room_of Journal b ∷ []

-- nothing is scheduled to fail
abbrev pub log_in : Buffers → Log
log_in b =
    record {
      counts = counts_in b;
      schedule = unplanned no_calls;
      memory = memory_of b;
      room = no_room;
    }

-- If the last call failed, it was a write for which there was no room, which counts as begun; or the counts are at their last value.
abbrev pub FailsForRoom : Buffers → Type 0
FailsForRoom b =
    (counts_in b).last_failed ≡ true → (counts_in b).calls < last_count
    → (story_in b).now.data_file.greatest ≤ room_of Data b
    → room_of Journal b < (story_in b).now.journal_file.greatest
