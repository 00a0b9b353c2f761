-- What the two real files show.
use Rattle.std.specs.Prelude.{◌≡◌, Bool, true, ◌&&◌, ◌||◌, nat_lt, Result, IsErr, is_err}
use Rattle.fit_disk.specs.declared.files.Files.{Files}
use Rattle.fit_disk.specs.Counts.{Counts, last_count}
use Rattle.fit_disk.specs.CallSchedule.{counts_of}

abbrev pub witness_of : {W : Type 0} → Files W → W
witness_of files = files.files.witness

abbrev pub files_counts : {W : Type 0} → Files W → Counts
files_counts files = counts_of files.counts

-- a sync of one of the files failed, so nothing more is promised of either
abbrev pub is_lost : {W : Type 0} → Files W → Bool
is_lost files = files.is_lost

-- If the files are lost, a call fails. It does not change whether they are lost.
pub record FailsIfLost {W T E : Type 0} (result : Result T E) (old new : Files W) : Type 0 where
  pub fails : is_lost old ≡ true → IsErr result
  pub same : is_lost new ≡ is_lost old

-- If the files are lost, a sync fails. A failed sync makes them lost, unless it could not be counted: then it was not tried.
pub record FailsSync {W T E : Type 0} (result : Result T E) (old new : Files W) : Type 0 where
  pub fails : is_lost old ≡ true → IsErr result
  pub lost : is_lost new
      ≡ (is_lost old || (is_err result && nat_lt (files_counts old).calls last_count))
