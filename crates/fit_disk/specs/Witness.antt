-- What one read of the system may give.
use Rattle.std.specs.Prelude.{◌≡◌, ℕ, ◌<◌, ◌≤◌, List, length, take, drop}

-- the file's own bytes from that place on, no more than there is room for, perhaps fewer; none only if there
-- is no room or the file has ended
pub record IsPart (seen : List ℕ) (at room : ℕ) (bytes : List ℕ) : Type 0 where
  pub bytes_there : bytes ≡ take (length bytes) (drop at seen)
  pub at_end : 0 < room → length bytes ≡ 0 → length seen ≤ at
