-- What is kept of a damaged file by going on after its faults, and what is printed of it.
use Rattle.std.specs.Prelude.{◌≡◌, ◌↔◌, ℕ, ◌+◌, ◌-◌, ◌≤◌, Bool, true, false, List, [], ◌∷◌, ◌++◌, length, take, drop, codes, decimal, Option, Some, None}
use Rattle.fit_grammar.specs.declared.file.frame.Frame.{Frame}
use Rattle.fit_grammar.specs.Format.File.{FileValue, FileOf, IsFrame}
use Rattle.fit_grammar.specs.Calls.BeginningHeader.{BeginsWithHeader}
use Rattle.fit_mending.specs.declared.pieces.Piece.{Piece}
use Rattle.fit_mending.specs.Pieces.{CutsFaults, IsSkipped, kept_row}
use Rattle.fit_mending.specs.Others.{FindsOthers}
use Rattle.fit_files.specs.declared.looking.Looked.{Looked}
use Rattle.fit_files.specs.declared.mended.Mended.{Mended}
use Rattle.fit_files.specs.Printed.Salvaged.{looked_at, not_looked_at, salvaged_frame}

-- the header that is written if the bytes begin with none
abbrev pub bare_frame : Frame
bare_frame = record { header_size = 14; protocol = 32; profile = 100 }

-- what is looked at begins at `front`, has so many bytes, and is written under this header: after the header that the bytes begin with,
-- as far as a salvage looks; or all bytes, if they begin with no header. It is trusted if the bytes are a file.
pub record LooksAt (all : Bool) (bytes : List ℕ) (looked : Looked) : Type 0 where
  pub frame : IsFrame looked.frame
  pub long : looked.frame.header_size ≡ 14
  pub within : looked.front + looked.looked_at ≤ length bytes
  pub headed : (frame : Frame) (size : ℕ) → BeginsWithHeader bytes frame size
      → (looked.front ≡ frame.header_size) × (looked.frame ≡ salvaged_frame frame)
      × (looked.looked_at ≡ length (looked_at all size (drop looked.front bytes)))
      × (looked.not_looked_at ≡ not_looked_at all size (drop looked.front bytes))
  pub bare : ((frame : Frame) (size : ℕ) → BeginsWithHeader bytes frame size → ⊥)
      → (looked.front ≡ 0) × (looked.frame ≡ bare_frame) × (looked.looked_at ≡ length bytes) × (looked.not_looked_at ≡ 0)
  pub trusted : (looked.trusted ≡ true) ↔ ((file : FileValue) × FileOf bytes file)

-- the bytes up to the end of what is looked at
abbrev pub seen_of : List ℕ → Looked → List ℕ
seen_of bytes looked = take (looked.front + looked.looked_at) bytes

-- what is kept of these bytes: pieces of those looked at, by their places in the file
pub record AreMended (all : Bool) (bytes : List ℕ) (looked : Looked) (pieces : List Piece) : Type 0 where
  pub looks : LooksAt all bytes looked
  pub cut : CutsFaults (seen_of bytes looked) looked.front looked.trusted pieces

-- the row of those that are kept
abbrev pub mended_row : List ℕ → Looked → List Piece → List ℕ
mended_row bytes looked pieces = kept_row (seen_of bytes looked) pieces

-- what is kept of these bytes, after what is known before them, and the other rides in what is left out
pub record IsMended (all : Bool) (known bytes : List ℕ) (mended : Mended) : Type 0 where
  pub looks : LooksAt all bytes mended.looked
  pub skipped : IsSkipped known (seen_of bytes mended.looked) mended.looked.front mended.looked.trusted mended.skipped
  pub others : FindsOthers known (seen_of bytes mended.looked) mended.skipped

-- how many bytes are kept
abbrev pub kept_size : Mended → ℕ
kept_size mended = length mended.skipped.row.items - mended.skipped.known

-- how many pieces are kept
abbrev pub one_if : Bool → ℕ
one_if true = 1
one_if false = 0

abbrev pub kept_count : List Piece → ℕ
kept_count [] = 0
kept_count (piece ∷ pieces) = one_if piece.kept + kept_count pieces

abbrev pub kept_line : ℕ → ℕ → ℕ → List ℕ
kept_line kept of parts =
    codes "kept " ++ decimal kept ++ codes " of " ++ decimal of ++ codes ", parts " ++ decimal parts

-- another ride, by the time at which it starts
abbrev pub ride_text : Option ℕ → List ℕ
ride_text None = []
ride_text (Some time) = codes ": another ride from " ++ decimal time

abbrev pub left_out_line : ℕ → ℕ → Option ℕ → List ℕ
left_out_line count at other =
    codes "left out " ++ decimal count ++ codes " at " ++ decimal at ++ ride_text other

-- the line of a piece, if it is left out
abbrev pub text_if : Bool → List ℕ → List ℕ
text_if true line = []
text_if false line = line ++ codes "\n"

abbrev pub piece_text : Piece → Option ℕ → List ℕ
piece_text piece other =
    text_if piece.kept (left_out_line (piece.end - piece.start) piece.start other)

-- the lines of pieces, with what is said of each
abbrev pub first_of : List (Option ℕ) → Option ℕ
first_of [] = None
first_of (other ∷ others) = other

abbrev pub pieces_text : List Piece → List (Option ℕ) → List ℕ
pieces_text [] others = []
pieces_text (piece ∷ pieces) others =
    piece_text piece (first_of others) ++ pieces_text pieces (drop 1 others)

-- the line of what is kept, and then those of what is left out
abbrev pub mended_text : Mended → List ℕ
mended_text mended =
    (kept_line (kept_size mended) mended.looked.looked_at (kept_count mended.skipped.pieces.items) ++ codes "\n")
    ++ pieces_text mended.skipped.pieces.items mended.skipped.others.items
