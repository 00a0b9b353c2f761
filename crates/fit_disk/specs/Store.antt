-- What the two files of the memory disk and its record stand for.
use Rattle.std.specs.Prelude.{ℕ, ◌+◌, ◌≤◌, max, vec_len, vec_capacity}
use Rattle.fit_disk.specs.declared.store.Store.{Store}
use Rattle.fit_disk.specs.Story.{Story}
use Rattle.fit_disk.specs.Events.{story_of}
use Rattle.fit_disk.specs.MemoryFile.{FileHasRoom}

-- the story that the record gives
abbrev pub store_story : Store → Story
store_story store = story_of store.events.items

-- a write of either file up to its end, with its event, and a later power cut need no memory
pub record HasStoreRoom (store : Store) (data_end journal_end : ℕ) : Type 0 where
  pub events : vec_len store.events + 2 ≤ vec_capacity store.events
  pub for_data : FileHasRoom store.data_in_memory data_end
  pub for_journal : FileHasRoom store.journal_in_memory journal_end
  pub left_data : max store.data_in_memory.greatest data_end ≤ vec_capacity store.left_data
  pub left_journal : max store.journal_in_memory.greatest journal_end ≤ vec_capacity store.left_journal
