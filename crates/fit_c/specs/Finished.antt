-- What adding the closing messages to a file in memory leaves and returns.
use Rattle.std.specs.Prelude.{◌≡◌, ℕ, ◌+◌, ◌<◌, List, length}
use Rattle.fit_activity.specs.Files.Activity.{activity_fault_code}
use Rattle.fit_activity.specs.declared.activity.ActivityFault.TheVariants as activities
use Rattle.fit_grammar.specs.Format.Encoding.{encoded}
use Rattle.fit_grammar.specs.Format.File.{FileValue, FileOf}
use Rattle.fit_finishing.specs.declared.finishing.FinishFault.{FinishFault}
use Rattle.fit_finishing.specs.declared.finishing.FinishFault.TheVariants.{NotActivity, NoSample, TooLong}
use Rattle.fit_finishing.specs.Finished.{Finishes, IsNotFinished}
use Rattle.fit_c.specs.declared.finishing.FinishCounts.{FinishCounts}

-- the bytes are a file; `finished` is what its finished file is written as, and the counts are those of its entries
pub record IsFinishedOf (bytes finished : List ℕ) (counts : FinishCounts) : Type 0 where
  pub file : FileValue
  pub is : FileOf bytes file
  pub new : FileValue
  pub finishes : Finishes file new counts.heard counts.left_out
  pub finished_is : finished ≡ encoded new

-- the bytes are a file, whose finished file has so many bytes, more than there is room for
pub record NeedsRoomToFinish (bytes : List ℕ) (room needed : ℕ) (counts : FinishCounts) : Type 0 where
  pub file : FileValue
  pub is : FileOf bytes file
  pub new : FileValue
  pub finishes : Finishes file new counts.heard counts.left_out
  pub needed_is : needed ≡ length (encoded new)
  pub short : room < needed

-- the code of a fault
abbrev pub finish_code : FinishFault → ℕ
finish_code NotActivity = 10 + activity_fault_code activities.NotActivity
finish_code NoSample = 26
finish_code TooLong = 21

-- the bytes are a file that is not finished; the code is that of the reason
pub record CannotBeFinished (bytes : List ℕ) (code : ℕ) : Type 0 where
  pub file : FileValue
  pub is : FileOf bytes file
  pub fault : FinishFault
  pub reason : IsNotFinished file fault
  pub code_is : code ≡ finish_code fault
