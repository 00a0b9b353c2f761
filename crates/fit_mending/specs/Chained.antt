-- Files that are chained, one after another.
use Rattle.std.specs.Prelude.{◌≡◌, ℕ, ◌+◌, ◌≤◌, List, [], ◌∷◌, ◌++◌, length, min}
use Rattle.fit_grammar.specs.declared.file.frame.Frame.{Frame}
use Rattle.fit_mending.specs.declared.chained.Part.{Part}
use Rattle.fit_grammar.specs.Calls.BeginningHeader.{BeginsWithHeader}

-- the first file of these bytes ends here: after the records that its header gives and the two bytes of a checksum, or where the bytes
-- end, if they end before that or begin with no header
pub record EndsFirst (bytes : List ℕ) (end : ℕ) : Type 0 where
  pub within : end ≤ length bytes
  pub headed : (frame : Frame) (size : ℕ) → BeginsWithHeader bytes frame size
      → end ≡ min (frame.header_size + size + 2) (length bytes)
  pub bare : ((frame : Frame) (size : ℕ) → BeginsWithHeader bytes frame size → ⊥)
      → end ≡ length bytes

-- the bytes are these files, one after another, none of them empty, each of which ends where the first file of the bytes from its own
-- beginning does
abbrev pub AreChained : List ℕ → List (List ℕ) → Type 0
AreChained bytes [] = bytes ≡ []
AreChained bytes (file ∷ files) =
    (rest : List ℕ) × (bytes ≡ file ++ rest) × (1 ≤ length file) × EndsFirst bytes (length file)
    × AreChained rest files

-- the files have the numbers after this one
abbrev pub AreNumbered : ℕ → List Part → Type 0
AreNumbered before [] = Unit {0}
AreNumbered before (part ∷ parts) = (part.number ≡ before + 1) × AreNumbered (before + 1) parts
