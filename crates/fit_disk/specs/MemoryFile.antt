-- What one file of the memory disk stands for.
use Rattle.std.specs.Prelude.{◌≡◌, ℕ, ◌<◌, ◌≤◌, vec_len, vec_capacity}
use Rattle.fit_disk.specs.declared.memory_file.MemoryFile.{MemoryFile}
use Rattle.fit_disk.specs.Stored.{Stored, Left}
use Rattle.fit_disk.specs.Cycle.{is_outside}

-- The half stands for this file. What was synced is not stored: at each kept place it agrees with what reads give.
pub record IsHalf (half : MemoryFile) (file : Stored) : Type 0 where
  pub seen : file.seen ≡ half.seen.items
  pub least : file.least ≡ half.least
  pub greatest : file.greatest ≡ half.greatest
  pub written : (place : ℕ) → is_outside place half.written.items ≡ is_outside place file.written
  pub sound : Left file file.seen

-- a write up to this end needs no memory
pub record FileHasRoom (half : MemoryFile) (end : ℕ) : Type 0 where
  pub bytes : end ≤ vec_capacity half.seen
  pub range : vec_len half.written < vec_capacity half.written
