-- Contents of a file: what a write or a cut makes of one, and what a part of it may make.
use Rattle.std.specs.Prelude.{◌≡◌, ℕ, ◌+◌, ◌<◌, ◌≤◌, max, List, ◌++◌, length, take, drop, slice_index}

-- each place holds a byte
abbrev pub IsBytes : List ℕ → Type 0
IsBytes content = (place : ℕ) → slice_index content place < 256

-- the content with these bytes at a place; it grows if they pass its end
abbrev pub over : ℕ → List ℕ → List ℕ → List ℕ
over at bytes old = take at old ++ (bytes ++ drop (at + length bytes) old)

-- after any part of a write of so many bytes at a place: any bytes in that range, the old content outside it,
-- and a length between the old one and that after the whole write
pub record Torn (at count : ℕ) (old new : List ℕ) : Type 0 where
  pub no_shorter : length old ≤ length new
  pub no_longer : length new ≤ max (length old) (at + count)
  pub before : (place : ℕ) → place < length old → place < at
      → slice_index new place ≡ slice_index old place
  pub after : (place : ℕ) → place < length old → at + count ≤ place
      → slice_index new place ≡ slice_index old place

-- after any part of a cut: a length between the old one and the one that was meant, and the old content below the latter
pub record PartlyCut (len : ℕ) (old new : List ℕ) : Type 0 where
  pub no_shorter : len ≤ length new
  pub no_longer : length new ≤ length old
  pub before : (place : ℕ) → place < len → slice_index new place ≡ slice_index old place
