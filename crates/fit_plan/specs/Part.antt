-- The front of a file that lies in memory.
use Rattle.std.specs.Prelude.{◌≡◌, Bool, true, ℕ, List, length, take}

-- the file begins with these bytes; whether it has no others may be known
pub record HasFront (seen : List ℕ) (front : List ℕ) (is_whole : Bool) : Type 0 where
  pub same : front ≡ take (length front) seen
  pub whole : is_whole ≡ true → front ≡ seen
