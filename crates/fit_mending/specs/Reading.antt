-- How damaged bytes are read: which items are kept after others, and where reading goes on.
use Rattle.std.specs.Prelude.{◌≡◌, ◌⊎◌, ℕ, ◌+◌, ◌<◌, ◌≤◌, Bool, true, false, List, [], ◌∷◌, ◌++◌, length, drop, slice_range, Option, is_some, nat_lt, if◌then◌else◌}
use Rattle.fit_grammar.specs.declared.definition.Definition.{Definition}
use Rattle.fit_grammar.specs.Format.Item.{Item, Data, Defines}
use Rattle.fit_grammar.specs.Format.Records.{RecordsAfter, in_force}
use Rattle.fit_grammar.specs.Calls.Step.{ItemAtFront, ItemBegun}
use Rattle.fit_grammar.specs.Calls.Table.{in_force_after}
use Rattle.fit_mending.specs.declared.pieces.Piece.{Piece}
use Rattle.fit_mending.specs.declared.progress.Progress.{Progress}
use Rattle.fit_mending.specs.Form.{begins_unwritten, comes_from_unwritten, runs_into_unwritten}
use Rattle.fit_mending.specs.Judged.{Judgement, anew, nothing}
use Rattle.fit_mending.specs.Steady.{HasSound, IsSound, IsSteady, IsTrusted, Sized, row_size}

-- the ride goes on, or begins anew
abbrev pub MayBegin : Progress → Progress → Type 0
MayBegin progress from = (from ≡ progress) ⊎ (from ≡ anew progress)

-- the bytes begin with a stretch that nobody wrote, or with an item that runs into one
abbrev pub IsUnwritten : (ℕ → Option Definition) → List ℕ → Type 0
IsUnwritten definition_for bytes =
    (begins_unwritten bytes ≡ true)
    ⊎ ((one : Sized) × ItemAtFront definition_for bytes one.item one.size × (runs_into_unwritten bytes one.size ≡ true))

-- after a data message no fault follows that a hole in it would leave: no time is known yet, the bytes end in the next item, nobody wrote
-- them, or they begin with an item that is no fault, where the ride may begin anew
abbrev pub IsFollowed : (ℕ → Option Definition) → Progress → List ℕ → Type 0
IsFollowed definition_for progress bytes =
    (is_some progress.clock.latest ≡ false) ⊎ ItemBegun definition_for bytes ⊎ IsUnwritten definition_for bytes
    ⊎ ((from : Progress) × MayBegin progress from × HasSound definition_for from bytes)

-- an item at the front of the bytes is whole, by what follows it and this progress after it: it does not run into a stretch that nobody
-- wrote, and if it is a data message, no fault follows it
abbrev pub IsWholeBy : Item → (ℕ → Option Definition) → Progress → List ℕ → Type 0
IsWholeBy (Defines d) definition_for progress rest = Unit {0}
IsWholeBy (Data local offset content) definition_for progress rest = IsFollowed definition_for progress rest

abbrev pub IsWhole : (ℕ → Option Definition) → Progress → List ℕ → Sized → Type 0
IsWhole definition_for progress bytes one =
    (runs_into_unwritten bytes one.size ≡ false) × IsWholeBy one.item definition_for progress (drop one.size bytes)

-- the bytes begin with these items, each of which is no fault after those before it, where the ride may begin anew, and whole; this is the
-- progress after them
abbrev pub ReadsRow : (ℕ → Option Definition) → Progress → List ℕ → List Sized → Progress → Type 0
ReadsRow definition_for progress bytes [] after = after ≡ progress
ReadsRow definition_for progress bytes (one ∷ row) after =
    (from : Progress) × (judgement : Judgement) × MayBegin progress from × IsSound definition_for from bytes one judgement
    × IsWhole definition_for judgement.progress bytes one
    × ReadsRow (in_force_after one.item definition_for) judgement.progress (drop one.size bytes) row after

-- the definitions in force after these items
abbrev pub after_row : (ℕ → Option Definition) → List Sized → ℕ → Option Definition
after_row definition_for [] = definition_for
after_row definition_for (one ∷ row) = after_row (in_force_after one.item definition_for) row

-- what is kept from one place to another is a row of such items; of a row there in which nothing is doubtful it has all but the last 32
pub record KeepsRow (definition_for : ℕ → Option Definition) (progress : Progress) (bytes : List ℕ) (start end : ℕ) (row : List Sized)
    (after : Progress) : Type 0 where
  pub size : start + row_size row ≡ end
  pub are : ReadsRow definition_for progress (drop start bytes) row after
  pub steady : (sound last : List Sized) → 32 ≤ length last → IsSteady definition_for progress 0 (drop start bytes) (sound ++ last)
      → start + row_size sound ≤ end

-- in what is left out from one place to another no trusted row begins, but where its first byte comes out of a stretch that nobody
-- wrote; after it is an item that is no fault, where the ride may begin anew, but not at a trusted row, or the bytes end
pub record LeavesOut (definition_for : ℕ → Option Definition) (progress : Progress) (bytes : List ℕ) (start end : ℕ)
    (after : Progress) : Type 0 where
  pub begun : MayBegin progress after
  pub none : (place : ℕ) → start ≤ place → place < end → IsTrusted definition_for progress (drop place bytes)
      → comes_from_unwritten bytes place ≡ true
  pub same : IsTrusted definition_for progress (drop end bytes) → after ≡ progress
  pub goes_on : end < length bytes → HasSound definition_for after (drop end bytes)

-- the piece from one place to another, unless it has no byte
abbrev pub piece_if : ℕ → ℕ → Bool → List Piece
piece_if start end kept = if nat_lt start end then record { start = start; end = end; kept = kept } ∷ [] else []

-- a piece, and how reading goes on after it; the first byte of one that is kept does not come out of a
-- stretch that nobody wrote
abbrev pub ReadsPiece : Bool → List ℕ → (ℕ → Option Definition) → Progress → Piece → ((ℕ → Option Definition) → Progress → Type 0) → Type 0
ReadsPiece true bytes definition_for progress piece GoesOn =
    (row : List Sized) × (after : Progress) × KeepsRow definition_for progress bytes piece.start piece.end row after
    × (comes_from_unwritten bytes piece.start ≡ false) × GoesOn (after_row definition_for row) after
ReadsPiece false bytes definition_for progress piece GoesOn =
    (after : Progress) × LeavesOut definition_for progress bytes piece.start piece.end after × GoesOn definition_for after

-- one piece after another, under these definitions and after this progress
abbrev pub ReadsPieces : List ℕ → (ℕ → Option Definition) → Progress → List Piece → Type 0
ReadsPieces bytes definition_for progress [] = Unit {0}
ReadsPieces bytes definition_for progress (piece ∷ pieces) =
    ReadsPiece piece.kept bytes definition_for progress piece (λ next after. ReadsPieces bytes next after pieces)

-- the first piece is read under its own definitions alone; from its end on those of the items `before` are in force too, and it may be
-- noted that they are guessed
abbrev pub IsNoted : Progress → Progress → Type 0
IsNoted progress noted = (noted ≡ progress) ⊎ (noted ≡ record progress { is_guessed = true })

pub record ReadsFrom (before : List Item) (bytes : List ℕ) (from : ℕ) (pieces : List Piece) : Type 0 where
  pub end : ℕ
  pub row : List Sized
  pub after : Progress
  pub keeps : KeepsRow (in_force []) nothing bytes from end row after
  pub items : List Item
  pub are_records : RecordsAfter before (slice_range bytes from end) items
  pub noted : Progress
  pub is_noted : IsNoted after noted
  pub others : List Piece
  pub pieces_are : pieces ≡ piece_if from end true ++ others
  pub others_are : ReadsPieces bytes (in_force (before ++ items)) noted others
