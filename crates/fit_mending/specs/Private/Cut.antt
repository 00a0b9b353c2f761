-- What is known of the pieces so far, after any items before them.
use Rattle.std.specs.Prelude.{◌≡◌, ℕ, ◌<◌, ◌≤◌, Bool, List, [], ◌∷◌, ◌++◌, length, drop, slice_range, Option}
use Rattle.fit_grammar.specs.declared.definition.Definition.{Definition}
use Rattle.fit_grammar.specs.Format.Item.{Item}
use Rattle.fit_grammar.specs.Format.Records.{in_force}
use Rattle.fit_mending.specs.declared.pieces.Piece.{Piece}
use Rattle.fit_mending.specs.declared.progress.Progress.{Progress}
use Rattle.fit_mending.specs.Pieces.{AreCut, AreItems, kept_by, kept_row}
use Rattle.fit_mending.specs.Reading.{MayBegin, ReadsPieces, ReadsRow, after_row, piece_if}
use Rattle.fit_mending.specs.Steady.{HasSound, IsTrusted, Sized, row_size}

abbrev pub piece_from : ℕ → ℕ → Bool → Piece
piece_from start end kept = record { start = start; end = end; kept = kept }

-- some pieces were added to others
abbrev pub HasAdded : List Piece → List Piece → Type 0
HasAdded taken more = (added : List Piece) × (more ≡ taken ++ added)

-- in so many bytes, from a place on, no trusted row begins
abbrev pub HasNoTrusted : (ℕ → Option Definition) → Progress → List ℕ → ℕ → ℕ → Type 0
HasNoTrusted definition_for progress bytes from end =
    (place : ℕ) → from ≤ place → place < end → IsTrusted definition_for progress (drop place bytes) → ⊥

-- so many bytes are left out, in which no trusted row begins from a place on; an item that is no fault follows, or nothing
pub record LeavesFrom (definition_for : ℕ → Option Definition) (progress : Progress) (bytes : List ℕ) (from count : ℕ)
    (after : Progress) : Type 0 where
  pub begun : MayBegin progress after
  pub same : count ≡ 0 → after ≡ progress
  pub none : HasNoTrusted definition_for progress bytes from count
  pub there : from ≤ 1 → IsTrusted definition_for progress (drop count bytes) → after ≡ progress
  pub goes_on : count < length bytes → HasSound definition_for after (drop count bytes)

-- so many bytes are a row of items that are no fault, and these definitions and this progress are those after them
pub record PassesRow (definition_for : ℕ → Option Definition) (progress : Progress) (bytes : List ℕ) (count : ℕ)
    (next : ℕ → Option Definition) (after : Progress) : Type 0 where
  pub row : List Sized
  pub size : row_size row ≡ count
  pub are : ReadsRow definition_for progress bytes row after
  pub next_are : next ≡ after_row definition_for row

-- some pieces that were read were added to others
abbrev pub ReadsAdded : List ℕ → (ℕ → Option Definition) → Progress → List Piece → List Piece → Type 0
ReadsAdded bytes definition_for progress taken more =
    (added : List Piece) × (more ≡ taken ++ added) × ReadsPieces bytes definition_for progress added

-- some pieces were added to others; with what is read after them, under these definitions and after this progress, they are read under those
abbrev pub ReadsUpTo : List ℕ → (ℕ → Option Definition) → Progress → List Piece → (ℕ → Option Definition) → Progress → List Piece → Type 0
ReadsUpTo bytes definition_for progress taken next after more =
    (added : List Piece) × (more ≡ taken ++ added)
    × ((others : List Piece) → ReadsPieces bytes next after others → ReadsPieces bytes definition_for progress (added ++ others))

-- the piece from one place to another was added to others, unless it has no byte
pub record AddsPiece (bytes : List ℕ) (start end : ℕ) (kept : Bool) (taken more : List Piece) : Type 0 where
  pub row : kept_row bytes more ≡ kept_row bytes taken ++ kept_by kept (slice_range bytes start end)
  pub cut : (before : List Item) (from : ℕ) (items own : List Item) → AreCut before bytes from start items taken
      → AreItems kept (before ++ items) (slice_range bytes start end) own → AreCut before bytes from end (items ++ own) more
  pub added : HasAdded taken more
  pub first : taken ≡ [] → start < end → more ≡ piece_from start end kept ∷ []
  pub one : more ≡ taken ++ piece_if start end kept

-- if pieces are cut up to one place, with these definitions in force, then these are up to another, with those
abbrev pub CutsTo : List ℕ → ℕ → (ℕ → Option Definition) → List Piece → ℕ → (ℕ → Option Definition) → List Piece → Type 0
CutsTo bytes from f taken to g more =
    (before items : List Item) (front : ℕ) → f ≡ in_force (before ++ items) → AreCut before bytes front from items taken
    → (all : List Item) × (g ≡ in_force (before ++ all)) × AreCut before bytes front to all more

-- the same up to the end, whatever is in force there
abbrev pub CutsOn : List ℕ → ℕ → (ℕ → Option Definition) → List Piece → List Piece → Type 0
CutsOn bytes from f taken more =
    (before items : List Item) (front : ℕ) → f ≡ in_force (before ++ items) → AreCut before bytes front from items taken
    → (all : List Item) × AreCut before bytes front (length bytes) all more
