-- What a salvage in memory leaves and returns.
use Rattle.std.specs.Prelude.{◌≡◌, ℕ, ◌<◌, Bool, List, length}
use Rattle.fit_files.specs.Printed.Salvaged.{IsSalvage, saved_file}
use Rattle.fit_files.specs.declared.salvage.Salvage.{Salvage}
use Rattle.fit_c.specs.declared.salvaging.SalvageCounts.{SalvageCounts}

abbrev pub salvage_counts_of : Salvage → SalvageCounts
salvage_counts_of salvage =
    record {
      kept = length salvage.row.now;
      looked_at = salvage.looked_at;
      not_looked_at = salvage.not_looked_at;
    }

-- `file` is the file of what is readable of `bytes`, and the counts are those of its salvage
pub record IsSalvaged (all : Bool) (bytes file : List ℕ) (counts : SalvageCounts) : Type 0 where
  pub salvage : Salvage
  pub found : IsSalvage all bytes salvage
  pub is : file ≡ saved_file salvage
  pub counted : counts ≡ salvage_counts_of salvage

-- the file of what is readable of `bytes` has so many bytes, more than there is room for, and the counts are those of its salvage
pub record NeedsRoomToSalvage (all : Bool) (bytes : List ℕ) (room needed : ℕ)
    (counts : SalvageCounts) : Type 0 where
  pub salvage : Salvage
  pub found : IsSalvage all bytes salvage
  pub needed_is : needed ≡ length (saved_file salvage)
  pub short : room < needed
  pub counted : counts ≡ salvage_counts_of salvage
