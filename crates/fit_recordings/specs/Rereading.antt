-- What a second reading of both files found.
use Rattle.std.specs.Prelude.{◌≡◌, ℕ, ◌^◌, ◌<◌, List, length}
use Rattle.fit_base.specs.Checksum.{crc}
use Rattle.fit_disk.specs.Counts.{Counts, HasFailed}
use Rattle.fit_disk.specs.State.{Contents}
use Rattle.fit_recordings.specs.declared.repairing.FileSums.{FileSums}

-- the checksum of all these bytes; a file has fewer than 2^64
abbrev pub IsSumOf : List ℕ → ℕ → Type 0
IsSumOf bytes sum = length bytes < 2 ^ 64 → sum ≡ crc bytes

-- those of both files
pub record AreSumsOf (contents : Contents) (sums : FileSums) : Type 0 where
  pub in_data : IsSumOf contents.in_data sums.in_data
  pub in_journal : IsSumOf contents.in_journal sums.in_journal

-- If a failure is reported, one call failed, the last one. Else none did.
pub record FailsOnlyIf (Failed : Type 0) (old new : Counts) : Type 0 where
  pub cause : Failed → HasFailed old new
  pub went : (Failed → ⊥) → new.failed ≡ old.failed
