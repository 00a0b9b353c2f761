-- The longest row of whole items that bytes begin with.
use Rattle.std.specs.Prelude.{ℕ, ◌≤◌, List, length, take}
use Rattle.fit_grammar.specs.Format.Item.{Item}
use Rattle.fit_grammar.specs.Format.Records.{Records}

-- so many of the first bytes are the records of some items, each data message with its definition in force, and this holds of
-- no longer prefix
pub record IsLongestFront (bytes : List ℕ) (front : ℕ) : Type 0 where
  pub within : front ≤ length bytes
  pub items : List Item
  pub are_records : Records (take front bytes) items
  pub longest : (n : ℕ) (others : List Item) → n ≤ length bytes → Records (take n bytes) others
      → n ≤ front
