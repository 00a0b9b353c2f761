-- What a save of two files in memory writes and returns.
use Rattle.std.specs.Prelude.{◌≡◌, ◌⊎◌, ◌<◌, ℕ, List, length, true}
use Rattle.fit_activity.specs.Files.Finished.{summary_of_list}
use Rattle.fit_activity.specs.Rides.Recording.{Recorded}
use Rattle.fit_disk.specs.State.{Contents}
use Rattle.fit_grammar.specs.Calls.PlainForm.{plain_of, plain_items, is_too_long}
use Rattle.fit_grammar.specs.Format.Encoding.{encoded}
use Rattle.fit_grammar.specs.Format.File.{FileValue}
use Rattle.fit_recordings.specs.Saved.{IsFinishedOf}
use Rattle.fit_c.specs.Repaired.{IsRepairCode, ride_summary_of}
use Rattle.fit_c.specs.declared.repairing.RideSummary.{RideSummary}

-- The two files stood for a list, and the bytes are the plain form of its finished file. The numbers are what the list adds up to.
pub record IsSaved (before : Contents) (bytes : List ℕ) (numbers : RideSummary) : Type 0 where
  pub list : List Recorded
  pub file : FileValue
  pub finished : IsFinishedOf before list file
  pub bytes_are : bytes ≡ encoded (plain_of file)
  pub sums_up : numbers ≡ ride_summary_of (summary_of_list list)

-- that file has so many bytes, more than there is room for
pub record NeedsRoomToSave (before : Contents) (room needed : ℕ) : Type 0 where
  pub list : List Recorded
  pub file : FileValue
  pub finished : IsFinishedOf before list file
  pub needed_is : needed ≡ length (encoded (plain_of file))
  pub short : room < needed

-- the plain form of that file would be too long
pub record IsTooLongToSave (before : Contents) : Type 0 where
  pub list : List Recorded
  pub file : FileValue
  pub finished : IsFinishedOf before list file
  pub too_long : is_too_long 0 (plain_items file.items) ≡ true

-- why that file is not written
pub record IsNotWritten (code : ℕ) (before : Contents) (room needed : ℕ) : Type 0 where
  pub no_room : code ≡ 20 → NeedsRoomToSave before room needed
  pub too_long : code ≡ 21 → IsTooLongToSave before

-- the codes that a save returns
abbrev pub IsSaveCode : ℕ → Type 0
IsSaveCode code = IsRepairCode code ⊎ (code ≡ 20) ⊎ (code ≡ 21)
