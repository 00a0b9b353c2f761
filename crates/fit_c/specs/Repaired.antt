-- What a repair of two files in memory leaves and returns.
use Rattle.std.specs.Prelude.{◌≡◌, ◌⊎◌, ℕ, ◌+◌, ◌<◌, ◌≤◌, ◌++◌, List, length, take, Option, Some, None, Ok}
use Rattle.fit_activity.specs.declared.activity.Summary.{Summary}
use Rattle.fit_activity.specs.Files.Activity.{activity_in}
use Rattle.fit_activity.specs.Files.Finished.{summary_of_list}
use Rattle.fit_activity.specs.Messages.RideMessages.{spoken, closing}
use Rattle.fit_activity.specs.Rides.Recording.{Recorded}
use Rattle.fit_disk.specs.State.{Contents}
use Rattle.fit_grammar.specs.Format.File.{File}
use Rattle.fit_recorder.specs.Files.Body.{StandsFor}
use Rattle.fit_recorder.specs.Files.Changed.{HasChanged}
use Rattle.fit_recorder.specs.Files.Finished.{finished}
use Rattle.fit_recorder.specs.Files.Limits.{longest_end}
use Rattle.fit_recorder.specs.Files.NothingRecorded.{IsNothing}
use Rattle.fit_recorder.specs.Files.Settled.{IsDamaged}
use Rattle.fit_c.specs.declared.repairing.RideSummary.{RideSummary}

-- the files are the first bytes of the two buffers
abbrev pub contents_in : List ℕ → ℕ → List ℕ → ℕ → Contents
contents_in in_data data_len in_journal journal_len =
    record {
      in_data = take data_len in_data;
      in_journal = take journal_len in_journal;
    }

-- both files lie in their buffers
pub record AreWithin (in_data : List ℕ) (data_len : ℕ) (in_journal : List ℕ)
    (journal_len : ℕ) : Type 0 where
  pub data_within : data_len ≤ length in_data
  pub journal_within : journal_len ≤ length in_journal

abbrev pub number_or : ℕ → Option ℕ → ℕ
number_or other None = other
number_or other (Some number) = number

-- the numbers are those of the summary
abbrev pub ride_summary_of : Summary → RideSummary
ride_summary_of s = record {
  records = s.records;
  laps = s.laps;
  sessions = s.sessions;
  start = number_or 4294967295 s.start;
  elapsed_ms = number_or 4294967295 s.elapsed_ms;
  timer_ms = number_or 4294967295 s.timer_ms;
  distance_cm = number_or 4294967295 s.distance_cm;
}

-- The data file is the finished file of the one list that the two files stood for, with the same body. It is a valid activity
-- that states what the list adds up to, as the numbers do. The two files still stand for that list, and the journal is as it was.
pub record IsRepaired (before after : Contents) (numbers : RideSummary) : Type 0 where
  pub list : List Recorded
  pub stood : StandsFor list before
  pub is : after.in_data ≡ finished stood.body list
  pub valid : File after.in_data (spoken list ++ closing list)
  pub activity : activity_in (spoken list ++ closing list) ≡ Ok (summary_of_list list)
  pub stands : StandsFor list after
  pub journal_kept : after.in_journal ≡ before.in_journal
  pub sums_up : numbers ≡ ride_summary_of (summary_of_list list)

-- what the code of a refused repair says of the two buffers and the lengths of the files in them
pub record IsRefused (code : ℕ) (data_bytes : List ℕ) (data_len : ℕ) (journal_bytes : List ℕ)
    (journal_len : ℕ) : Type 0 where
  pub nothing : code ≡ 7 → IsNothing (contents_in data_bytes data_len journal_bytes journal_len)
  pub damaged : code ≡ 8 → IsDamaged (contents_in data_bytes data_len journal_bytes journal_len)
      × (HasChanged (contents_in data_bytes data_len journal_bytes journal_len) → ⊥)
  pub changed : code ≡ 16 → IsDamaged (contents_in data_bytes data_len journal_bytes journal_len)
      × HasChanged (contents_in data_bytes data_len journal_bytes journal_len)
  pub too_long : code ≡ 9 → (length data_bytes < data_len) ⊎ (length journal_bytes < journal_len)
  pub no_room : code ≡ 10 → length data_bytes < data_len + longest_end

-- the codes that a repair returns
abbrev pub IsRepairCode : ℕ → Type 0
IsRepairCode code = (code ≡ 0) ⊎ (code ≡ 7) ⊎ (code ≡ 8) ⊎ (code ≡ 9) ⊎ (code ≡ 10) ⊎ (code ≡ 16)
