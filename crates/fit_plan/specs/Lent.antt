-- What a lent journal shows as a disk.
use Rattle.std.specs.Prelude.{◌≡◌, ℕ, Bool, true, false, ◌∷◌}
use Rattle.fit_disk.specs.CallSchedule.{counts_of}
use Rattle.fit_disk.specs.Counts.{Counts, Log, no_calls, no_room, unplanned}
use Rattle.fit_disk.specs.Story.{Story}
use Rattle.fit_disk.specs.Numbers.{numbers_of}
use Rattle.fit_plan.specs.declared.journal.LentJournal.{LentJournal}

abbrev pub lent_story : LentJournal → Story
lent_story l = l.notes.story

-- the story when it was lent
abbrev pub lent_since : LentJournal → Story
lent_since l = l.notes.since

abbrev pub lent_counts : LentJournal → Counts
lent_counts l = counts_of l.counts

abbrev pub bit_of : Bool → ℕ
bit_of true = 1
bit_of false = 0

-- no call changes which journal it is
abbrev pub lent_log : LentJournal → Log
lent_log l =
    record {
      counts = lent_counts l;
      schedule = unplanned no_calls;
      memory = bit_of l.is_whole ∷ numbers_of (lent_since l);
      room = no_room;
    }

-- all of the journal is lent, and no call was made
pub record IsLentWhole (l : LentJournal) : Type 0 where
  pub whole : l.is_whole ≡ true
  pub began : lent_since l ≡ lent_story l
  pub none : lent_counts l ≡ no_calls
