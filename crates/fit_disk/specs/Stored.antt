-- One file of a disk between two syncs, and what a crash may leave of it.
use Rattle.std.specs.Prelude.{◌≡◌, ◌⊎◌, ℕ, ◌+◌, ◌<◌, ◌≤◌, min, max, List, [], ◌∷◌, length, slice_index}
use Rattle.fit_disk.specs.Content.{IsBytes}

-- what the last successful sync kept, what reads give, and since that sync the least and the greatest length
-- and the written ranges, each a place and a number of bytes
pub record Stored : Type 0 where
  pub synced : List ℕ
  pub seen : List ℕ
  pub least : ℕ
  pub greatest : ℕ
  pub written : List (ℕ × ℕ)

-- the place is in none of the ranges
abbrev pub IsOutside : ℕ → List (ℕ × ℕ) → Type 0
IsOutside place [] = Unit {0}
IsOutside place (range ∷ ranges) =
    ((place < range.0) ⊎ (range.0 + range.1 ≤ place)) × IsOutside place ranges

-- a crash may leave this content: it agrees with what was synced at each place below the least length at which nothing was written
pub record Left (file : Stored) (content : List ℕ) : Type 0 where
  pub no_shorter : file.least ≤ length content
  pub no_longer : length content ≤ file.greatest
  pub same : (place : ℕ) → place < file.least → IsOutside place file.written
      → slice_index content place ≡ slice_index file.synced place
  pub bytes : IsBytes content

-- whatever a crash leaves of the file satisfies P
abbrev pub Leaves : (List ℕ → Type 0) → Stored → Type 0
Leaves P file = (content : List ℕ) → Left file content → P content

-- all of the file is kept, as after a successful sync or after a crash that left this content
abbrev pub at_rest : List ℕ → Stored
at_rest content =
    record {
      synced = content;
      seen = content;
      least = length content;
      greatest = length content;
      written = [];
    }

-- a write of so many bytes at a place has begun, and reads give this now
abbrev pub write_begun : ℕ → ℕ → List ℕ → Stored → Stored
write_begun at count now file =
    record file {
      seen = now;
      greatest = max file.greatest (at + count);
      written = (at, count) ∷ file.written;
    }

-- a cut to a length has begun, and reads give this now
abbrev pub cut_begun : ℕ → List ℕ → Stored → Stored
cut_begun len now file = record file { seen = now; least = min file.least len }
