-- What is kept of a damaged file in memory by going on after its faults, and what is returned of it.
use Rattle.std.specs.Prelude.{◌≡◌, ◌⊎◌, ℕ, ◌+◌, ◌-◌, ◌<◌, ◌≤◌, ◌==◌, Bool, true, false, List, [], ◌∷◌, length, take, map}
use Rattle.std.specs.Io.Iter.{u64_saturate}
use Rattle.fit_grammar.specs.Calls.FaultCode.{kind_code}
use Rattle.fit_grammar.specs.Calls.BeginningHeader.{BeginsWithHeader}
use Rattle.fit_grammar.specs.Calls.Framed.{framed}
use Rattle.fit_grammar.specs.declared.file.frame.Frame.{Frame}
use Rattle.fit_grammar.specs.declared.file.fault.FileFault.{FileFault}
use Rattle.fit_mending.specs.declared.pieces.Piece.{Piece}
use Rattle.fit_mending.specs.Pieces.{CutsFaults, kept_row}
use Rattle.fit_files.specs.Printed.Mended.{AreMended, mended_row}
use Rattle.fit_files.specs.Printed.Salvaged.{IsNotSalvaged}
use Rattle.fit_files.specs.declared.looking.Looked.{Looked}
use Rattle.fit_c.specs.declared.pieces.FilePiece.{FilePiece}
use Rattle.fit_c.specs.declared.pieces.PieceRoom.{PieceRoom}
use Rattle.fit_c.specs.declared.salvaging.SalvageCounts.{SalvageCounts}
use Rattle.fit_c.specs.declared.skipping.Taken.{Taken}

abbrev pub one_if : Bool → ℕ
one_if true = 1
one_if false = 0

-- a piece as C sees it, and the piece that it stands for
abbrev pub file_piece_of : Piece → FilePiece
file_piece_of piece = record { start = piece.start; end = piece.end; kept = one_if piece.kept }

abbrev pub piece_of : FilePiece → Piece
piece_of piece = record { start = piece.start; end = piece.end; kept = piece.kept == 1 }

-- how many bytes the kept pieces have
abbrev pub size_if : Bool → ℕ → ℕ
size_if true size = size
size_if false size = 0

abbrev pub kept_size : List Piece → ℕ
kept_size [] = 0
kept_size (piece ∷ pieces) = size_if piece.kept (piece.end - piece.start) + kept_size pieces

-- the buffer has taken these pieces: it counts them all, and holds them if they have room
pub record HoldsPieces (room : PieceRoom) (pieces : List Piece) : Type 0 where
  pub count : room.count ≡ u64_saturate (length pieces)
  pub kept : room.kept ≡ u64_saturate (kept_size pieces)
  pub are : length pieces ≤ length room.pieces.now
      → take (length pieces) room.pieces.now ≡ map file_piece_of pieces

-- the pieces of what is looked at were taken, and are so many, with so many kept bytes; the buffer holds them if they have room
pub record AreTaken (seen : List ℕ) (looked : Looked) (taken : Taken) (held : List FilePiece) : Type 0 where
  pub pieces : List Piece
  pub cut : CutsFaults seen looked.front looked.trusted pieces
  pub count_is : taken.count ≡ length pieces
  pub kept_is : taken.kept ≡ length (kept_row seen pieces)
  pub are : taken.count ≤ length held → take taken.count held ≡ map file_piece_of pieces

-- what a mending kept of these bytes
pub record Mending (all : Bool) (bytes : List ℕ) : Type 0 where
  pub looked : Looked
  pub pieces : List Piece
  pub are : AreMended all bytes looked pieces

abbrev pub row_of : {all : Bool} {bytes : List ℕ} → Mending all bytes → List ℕ
row_of {all} {bytes} it = mended_row bytes it.looked it.pieces

abbrev pub skip_counts_of : {all : Bool} {bytes : List ℕ} → Mending all bytes → SalvageCounts
skip_counts_of it =
    record {
      kept = length (row_of it);
      looked_at = it.looked.looked_at;
      not_looked_at = it.looked.not_looked_at;
    }

-- the new file, the pieces and the counts are those of one mending of these bytes
pub record IsSkipped (all : Bool) (bytes file : List ℕ) (pieces : List FilePiece)
    (counts : SalvageCounts) : Type 0 where
  pub it : Mending all bytes
  pub file_is : file ≡ framed it.looked.frame (row_of it)
  pub pieces_are : pieces ≡ map file_piece_of it.pieces
  pub counted : counts ≡ skip_counts_of it

-- the new file of a mending has so many bytes, more than there is room for; the pieces and the counts are those of the mending
pub record NeedsRoomToSkip (all : Bool) (bytes : List ℕ) (room needed : ℕ) (pieces : List FilePiece)
    (counts : SalvageCounts) : Type 0 where
  pub it : Mending all bytes
  pub needed_is : needed ≡ length (framed it.looked.frame (row_of it))
  pub short : room < needed
  pub pieces_are : pieces ≡ map file_piece_of it.pieces
  pub counted : counts ≡ skip_counts_of it

-- a mending has so many pieces, more than there is room for
pub record NeedsPieces (all : Bool) (bytes : List ℕ) (room count : ℕ) : Type 0 where
  pub it : Mending all bytes
  pub count_is : count ≡ length it.pieces
  pub short : room < count

-- there is something to write: so many bytes are kept, or the bytes begin with a header
abbrev pub HasContent : List ℕ → ℕ → Type 0
HasContent bytes kept = (1 ≤ kept) ⊎ ((frame : Frame) × (size : ℕ) × BeginsWithHeader bytes frame size)

-- the bytes begin with no header, nothing is kept of them, and the code is that of their refusal as a file
pub record IsNotSkipped (all : Bool) (bytes : List ℕ) (code : ℕ) : Type 0 where
  pub it : Mending all bytes
  pub nothing : length (row_of it) ≡ 0
  pub fault : FileFault
  pub refused : IsNotSalvaged bytes fault
  pub code_is : code ≡ kind_code fault.kind
