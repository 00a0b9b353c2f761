-- The pieces of damaged bytes, of which some are kept.
use Rattle.std.specs.Prelude.{◌≡◌, ℕ, ◌+◌, ◌*◌, ◌<◌, ◌≤◌, Bool, true, false, List, [], ◌∷◌, ◌++◌, length, drop, flat_map, slice_range}
use Rattle.fit_grammar.specs.Calls.LongestFront.{IsLongestFront}
use Rattle.fit_grammar.specs.Format.Item.{Item}
use Rattle.fit_grammar.specs.Format.Records.{Records, RecordsAfter, in_force}
use Rattle.fit_mending.specs.declared.pieces.Piece.{Piece}
use Rattle.fit_mending.specs.declared.pieces.Skipped.{Skipped}
use Rattle.fit_mending.specs.Judged.{nothing}
use Rattle.fit_mending.specs.Reading.{ReadsFrom}
use Rattle.fit_mending.specs.Steady.{IsSteady, Sized, row_size}

-- the piece begins at this place, has a byte, and is within the bytes
pub record IsPieceAt (bytes : List ℕ) (at : ℕ) (piece : Piece) : Type 0 where
  pub start : piece.start ≡ at
  pub some : piece.start < piece.end
  pub within : piece.end ≤ length bytes

abbrev pub piece_bytes : List ℕ → Piece → List ℕ
piece_bytes bytes piece = slice_range bytes piece.start piece.end

-- the items of a piece, after the items `before`: its bytes are a row of them, each data message with its definition in force. A piece
-- that is left out has none.
abbrev pub AreItems : Bool → List Item → List ℕ → List Item → Type 0
AreItems true before own items = RecordsAfter before own items
AreItems false before own items = items ≡ []

-- the pieces are the bytes from one place to another, in order and without a gap, and their items after the items `before` are
-- these
abbrev pub ArePieces : List ℕ → ℕ → ℕ → List Item → List Piece → List Item → Type 0
ArePieces bytes from to before [] items = (from ≡ to) × (items ≡ [])
ArePieces bytes from to before (piece ∷ pieces) items =
    (own : List Item) × (others : List Item) × IsPieceAt bytes from piece
    × AreItems piece.kept before (piece_bytes bytes piece) own × (items ≡ own ++ others)
    × ArePieces bytes piece.end to (before ++ own) pieces others

-- the bytes that are kept of a piece
abbrev pub kept_by : Bool → List ℕ → List ℕ
kept_by true own = own
kept_by false own = []

abbrev pub kept_of : List ℕ → Piece → List ℕ
kept_of bytes piece = kept_by piece.kept (piece_bytes bytes piece)

-- each piece is within the bytes
abbrev pub AreWithin : List ℕ → List Piece → Type 0
AreWithin bytes [] = Unit {0}
AreWithin bytes (piece ∷ pieces) = (piece.start ≤ piece.end) × (piece.end ≤ length bytes) × AreWithin bytes pieces

-- the row: the bytes of the pieces that are kept, one after another
abbrev pub kept_row : List ℕ → List Piece → List ℕ
kept_row bytes pieces = flat_map (kept_of bytes) pieces

-- the pieces are the bytes from one place to another, in order and without a gap; after the items `before`, the row of those that are kept
-- spells these items
pub record AreCut (before : List Item) (bytes : List ℕ) (from to : ℕ) (items : List Item) (pieces : List Piece) : Type 0 where
  pub are_pieces : ArePieces bytes from to before pieces items
  pub are_records : RecordsAfter before (kept_row bytes pieces) items

-- the same of all bytes from a place on
abbrev pub AreCutFrom : List Item → List ℕ → ℕ → List Piece → Type 0
AreCutFrom before bytes from pieces =
    (items : List Item) × AreCut before bytes from (length bytes) items pieces

-- a piece that begins at this place and is no longer than the longest row of whole items there
pub record BeginsRow (bytes : List ℕ) (from : ℕ) (piece : Piece) : Type 0 where
  pub start : piece.start ≡ from
  pub within : (longest : ℕ) → IsLongestFront (drop from bytes) longest → piece.end ≤ from + longest

-- the first piece, if it is kept, begins the row that starts at this place
abbrev pub HasFirst : List ℕ → ℕ → List Piece → Type 0
HasFirst bytes from [] = Unit {0}
HasFirst bytes from (piece ∷ pieces) = piece.kept ≡ true → BeginsRow bytes from piece

-- the first piece begins at a place and is kept, at least up to another
abbrev pub KeepsFirst : ℕ → ℕ → List Piece → Type 0
KeepsFirst from to pieces = from < to
    → (piece : Piece) × (others : List Piece) × (pieces ≡ piece ∷ others) × (piece.start ≡ from) × (piece.kept ≡ true) × (to ≤ piece.end)

-- of a row at the front in which no item is a fault or doubtful, the first piece has all but the last 32 items, at least
abbrev pub KeepsSteady : List ℕ → ℕ → List Piece → Type 0
KeepsSteady bytes from pieces = (row last : List Sized) → IsSteady (in_force []) nothing 0 (drop from bytes) (row ++ last)
    → 32 ≤ length last → KeepsFirst from (from + row_size row) pieces

-- bytes are not kept whole unless they are trusted, and a row of whole items from a place on
abbrev pub IsNotWhole : List ℕ → ℕ → Bool → Type 0
IsNotWhole bytes from trusted = (items : List Item) → trusted ≡ true → Records (drop from bytes) items → ⊥

-- how all bytes from a place on are cut after the items `before`, such as definitions that are known: if they are trusted and a row of whole
-- items, all are kept
pub record CutsAfter (before : List Item) (bytes : List ℕ) (from : ℕ) (trusted : Bool)
    (pieces : List Piece) : Type 0 where
  pub cut : AreCutFrom before bytes from pieces
  pub whole : (items : List Item) → trusted ≡ true → Records (drop from bytes) items
      → kept_row bytes pieces ≡ drop from bytes
  pub first : before ≡ [] → HasFirst bytes from pieces
  pub steady : KeepsSteady bytes from pieces
  pub read : IsNotWhole bytes from trusted → ReadsFrom before bytes from pieces

-- the same, if no item is before them
abbrev pub CutsFaults : List ℕ → ℕ → Bool → List Piece → Type 0
CutsFaults bytes from trusted pieces = CutsAfter [] bytes from trusted pieces

-- A look: an item that is tried ahead of where reading is, before it is known what is kept there. So many bytes take at most so many.
abbrev pub most_looks : ℕ → ℕ
most_looks count = 2250000 + 350 * count

-- the pieces of all bytes from a place on, after the items `before`; the new row spells these items and then those of the pieces
pub record SkipsAfter (before : List Item) (bytes : List ℕ) (from : ℕ) (trusted : Bool)
    (skipped : Skipped) : Type 0 where
  pub cuts : CutsAfter before bytes from trusted skipped.pieces.items
  pub are_records : Records skipped.row.items (before ++ cuts.cut.0)

-- the new row is what is known before the bytes, and then the row of the pieces that are kept
pub record IsSkipped (known bytes : List ℕ) (from : ℕ) (trusted : Bool) (skipped : Skipped) : Type 0 where
  pub row_is : skipped.row.items ≡ known ++ kept_row bytes skipped.pieces.items
  pub known_is : skipped.known ≡ length known
  pub after : (before : List Item) → Records known before → SkipsAfter before bytes from trusted skipped
