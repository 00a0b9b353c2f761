-- The recovery by windows that frozen numbers stand for.
use Rattle.std.specs.Prelude.{◌≡◌, ◌≤◌, ℕ, List, length}
use Rattle.fit_activity.specs.Messages.Replay.{HasHeard}
use Rattle.fit_disk.specs.State.{seen_in}
use Rattle.fit_disk.specs.Story.{Story, seen_of}
use Rattle.fit_disk.specs.declared.disk.Which.TheVariants.{Data}
use Rattle.fit_grammar.specs.Format.Item.{Item}
use Rattle.fit_grammar.specs.Format.Message.{Message, messages_of}
use Rattle.fit_journal.specs.Adopting.{Adopted, checksum_in}
use Rattle.fit_journal.specs.Frozen.{slots_in}
use Rattle.fit_journal.specs.Slots.{row_slots}
use Rattle.fit_journal.specs.Turn.{open_gates}
use Rattle.fit_journal.specs.declared.slots.Slots.{Slots}
use Rattle.fit_recorder.specs.Files.Committed.{HasBody}
use Rattle.fit_recorder.specs.Files.Limits.{most_records}
use Rattle.fit_recorder.specs.Files.Settled.{IsSettled}
use Rattle.fit_recorder.specs.Private.Length.{CommitsLength}
use Rattle.fit_activity.specs.declared.replay.Replay.{Replay}
use Rattle.fit_activity.specs.Messages.FrozenReplay.{replay_in, IsPossibleReplay}
use Rattle.fit_grammar.specs.Calls.FrozenTable.{table_in, ArePossible}
use Rattle.fit_recorder.specs.Private.BodyRead.{Reading, AreItemsRead}
use Rattle.fit_recorder.specs.declared.recovery.frozen.FrozenRecovery.{FrozenRecovery}

abbrev pub reading_in : FrozenRecovery → Reading
reading_in f =
    record {
      table = table_in f.definitions;
      time = f.time;
      checksums = record { file = f.checksum; stated = f.crc32 };
      at = f.at;
      len = f.len;
    }

abbrev pub replay_of : FrozenRecovery → Replay
replay_of f = replay_in f.heard

abbrev pub journal_of : FrozenRecovery → Slots
journal_of f = slots_in f.journal

-- a recovery may have these numbers
pub record IsPossibleRecovery (f : FrozenRecovery) : Type 0 where
  pub within : f.at ≤ f.len
  pub definitions : ArePossible f.definitions
  pub heard : IsPossibleReplay f.heard
  pub journal : open_gates (journal_of f) ≤ row_slots

-- the recovery with these numbers reads on over these files
pub record ReadsOnIn (f : FrozenRecovery) (story : Story) : Type 0 where
  pub possible : IsPossibleRecovery f
  pub messages : List Message
  pub heard : HasHeard (replay_of f) messages
  pub few : length messages ≤ f.at
  pub most : f.len ≤ most_records
  pub settled : IsSettled (seen_in story.now) story
  pub committed : CommitsLength (seen_in story.now) f.len (checksum_in (journal_of f))
  pub adopted : Adopted (journal_of f) f.len story.now.journal_file.seen
  pub read : (body : List ℕ) → length body ≡ f.len → HasBody body (seen_of Data story)
      → (items : List Item) × AreItemsRead (reading_in f) body items
      × HasHeard (replay_of f) (messages_of items)
