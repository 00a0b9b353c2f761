-- What is counted of pieces, and how a buffer holds them: for `fitrec_skip`.
use Rattle.std.proofs.Common.{◌≡◌, ℕ, suc, ◌+◌, ◌-◌, ◌/◌, ◌%◌, ◌<◌, ◌≤◌, ◌^◌, ◌==◌, Bool, true, false, List, [], ◌∷◌, ◌++◌, length, take, drop, refl, sym, ap, subst, ◌∙◌, arith}
use Rattle.std.proofs.Math.ListN.{set}
use Rattle.std.proofs.Math.Seq.{take-suc-set}
use Rattle.std.proofs.lemmas.List.{length-append, length-take, length-drop, map-append}
use Rattle.std.specs.Io.Iter.{u64_saturate}
use Rattle.std.specs.Prelude.{map}
use Rattle.fit_base.specs.Checksum.{crc}
use Rattle.fit_base.specs.declared.order.Arch.TheVariants.{Little}
use Rattle.fit_grammar.specs.Calls.Framed.{framed}
use Rattle.fit_grammar.specs.declared.file.frame.Frame.{Frame}
use Rattle.fit_grammar.specs.Format.Encoding.{two_bytes, with_checksum, header_front, encoded_header}
use Rattle.fit_grammar.specs.Format.Item.{Item}
use Rattle.fit_grammar.proofs.Encoder.Encoded.{checksum_bytes}
use Rattle.fit_mending.specs.declared.pieces.Piece.{Piece}
use Rattle.fit_grammar.specs.Calls.FaultCode.{kind_code}
use Rattle.fit_grammar.specs.declared.file.fault.FaultKind.{FaultKind}
use Rattle.fit_grammar.specs.declared.file.fault.FaultKind.TheVariants.{Truncated, HeaderSize, Magic, Protocol, HeaderCrc, UndefinedLocal, SplitMessage, FileCrc, TrailingBytes, Memory}
use Rattle.fit_mending.proofs.Cut.{are_within, row_length}
use Rattle.fit_files.specs.declared.looking.Looked.{Looked}
use Rattle.fit_files.specs.Printed.Mended.{LooksAt, seen_of}
use Rattle.fit_c.specs.declared.skipping.Taken.{Taken}
use Rattle.fit_mending.specs.Pieces.{ArePieces, AreWithin, CutsFaults, kept_by, kept_of, kept_row, piece_bytes}
use Rattle.fit_c.specs.declared.pieces.FilePiece.{FilePiece}
use Rattle.fit_c.specs.declared.pieces.PieceRoom.{PieceRoom}
use Rattle.fit_c.specs.Skipped.{AreTaken, HoldsPieces, Mending, file_piece_of, kept_size, one_if, piece_of, size_if}

-- a piece that is written for C and read again
flag_back : (kept : Bool) → (one_if kept == 1) ≡ kept
flag_back true = refl
flag_back false = refl

piece_back : (piece : Piece) → piece_of (file_piece_of piece) ≡ piece
piece_back piece = ap (λ (kept : Bool). record piece { kept = kept }) (flag_back piece.kept)

pub pieces_back : (pieces : List Piece) → map piece_of (map file_piece_of pieces) ≡ pieces
pieces_back [] = refl
pieces_back (piece ∷ pieces) =
    ap (λ (p : Piece). p ∷ map piece_of (map file_piece_of pieces)) (piece_back piece) ∙ ap (λ (ps : List Piece). piece ∷ ps) (pieces_back pieces)

-- one more piece is counted
pub kept_size_more : (pieces : List Piece) (piece : Piece)
    → kept_size (pieces ++ piece ∷ []) ≡ kept_size pieces + size_if piece.kept (piece.end - piece.start)
kept_size_more [] piece = omega arith
kept_size_more (first ∷ pieces) piece = omega (arith, kept_size_more pieces piece)

-- the number of kept bytes is the length of the row
kept_by_size : (kept : Bool) (own : List ℕ) → length (kept_by kept own) ≡ size_if kept (length own)
kept_by_size true own = refl
kept_by_size false own = refl

pub kept_size_is : (bytes : List ℕ) (pieces : List Piece) → AreWithin bytes pieces → kept_size pieces ≡ length (kept_row bytes pieces)
kept_size_is bytes [] are = refl
kept_size_is bytes (piece ∷ pieces) are =
    let long : length (piece_bytes bytes piece) ≡ piece.end - piece.start =
    omega (arith, are.0, are.1, length-take (piece.end - piece.start) (drop piece.start bytes), length-drop piece.start bytes) in
    let own : length (kept_of bytes piece) ≡ size_if piece.kept (piece.end - piece.start) =
    kept_by_size piece.kept (piece_bytes bytes piece) ∙ ap (size_if piece.kept) long in
    omega (arith, own, kept_size_is bytes pieces are.2, length-append (kept_of bytes piece) (kept_row bytes pieces))

-- a buffer that has taken pieces, and one more
pub holds_more : (old new : PieceRoom) (pieces : List Piece) (piece : Piece) → HoldsPieces old pieces → length old.pieces.now < 2 ^ 64
    → (old.count < length old.pieces.now → new.pieces.now ≡ set old.pieces.now old.count (file_piece_of piece))
    → length new.pieces.now ≡ length old.pieces.now → new.count ≡ u64_saturate (old.count + 1)
    → new.kept ≡ u64_saturate (old.kept + size_if piece.kept (piece.end - piece.start)) → HoldsPieces new (pieces ++ piece ∷ [])
holds_more old new pieces piece held small here long count kept = record {
  count = omega (arith, held.count, count, length-append pieces (piece ∷ []));
  kept = omega (arith, held.kept, kept, kept_size_more pieces piece);
  are = λ fit.
      let n = length pieces in
      let more : length (pieces ++ piece ∷ []) ≡ suc n = omega (arith, length-append pieces (piece ∷ [])) in
      let room : n < length old.pieces.now = omega (arith, fit, more, long) in
      let at : old.count ≡ n = omega (arith, held.count, room, small) in
      let set_is : new.pieces.now ≡ set old.pieces.now n (file_piece_of piece) =
      here (omega (arith, at, room)) ∙ ap (λ (i : ℕ). set old.pieces.now i (file_piece_of piece)) at in
      ap (λ (i : ℕ). take i new.pieces.now) more ∙ ap (take (suc n)) set_is
      ∙ take-suc-set old.pieces.now n (file_piece_of piece) room
      ∙ ap (λ (l : List FilePiece). l ++ file_piece_of piece ∷ []) (held.are (omega (arith, room)))
      ∙ sym (map-append file_piece_of pieces (piece ∷ []));
}

-- there are no more pieces than bytes
pub pieces_most : (bytes : List ℕ) (from to : ℕ) (before : List Item) (pieces : List Piece) (items : List Item)
    → ArePieces bytes from to before pieces items → from + length pieces ≤ to
pieces_most bytes from to before [] items p = omega (arith, p.0)
pieces_most bytes from to before (piece ∷ pieces) items p =
    omega (arith, p.2.start, p.2.some, pieces_most bytes piece.end to (before ++ p.0) pieces p.1 p.5)

-- what a buffer holds in the end
pub taken_of : (seen : List ℕ) (looked : Looked) (room : PieceRoom) (held : List FilePiece) (pieces : List Piece) → HoldsPieces room pieces
    → CutsFaults seen looked.front looked.trusted pieces → length seen < 2 ^ 32 → held ≡ room.pieces.now
    → AreTaken seen looked (record { count = room.count; kept = room.kept }) held
taken_of seen looked room held pieces has cut small same =
    let are = cut.cut.1.are_pieces in
    let most : looked.front + length pieces ≤ length seen = pieces_most seen looked.front (length seen) [] pieces cut.cut.0 are in
    let count : room.count ≡ length pieces = omega (arith, has.count, most, small) in
    let size : kept_size pieces ≡ length (kept_row seen pieces) =
    kept_size_is seen pieces (are_within seen looked.front (length seen) [] pieces cut.cut.0 are) in
    let row : length (kept_row seen pieces) ≤ length seen = row_length seen looked.front pieces cut.cut in
    record {
      pieces = pieces;
      cut = cut;
      count_is = count;
      kept_is = omega (arith, has.kept, size, row, small);
      are = λ fit.
          ap (λ (n : ℕ). take n held) count ∙ ap (take (length pieces)) same
          ∙ has.are (omega (arith, fit, count, ap length same));
    }

-- ---- what a skip answers

abbrev pub mending_of : (all : Bool) (bytes : List ℕ) (looked : Looked) (taken : Taken) (held : List FilePiece) → LooksAt all bytes looked
    → AreTaken (seen_of bytes looked) looked taken held → Mending all bytes
mending_of all bytes looked taken held looks t =
    record { looked = looked; pieces = t.pieces; are = record { looks = looks; cut = t.cut } }

-- the pieces in the buffer are those that were taken
pub held_are : (seen : List ℕ) (looked : Looked) (taken : Taken) (held : List FilePiece) (t : AreTaken seen looked taken held)
    → taken.count ≤ length held → map piece_of (take taken.count held) ≡ t.pieces
held_are seen looked taken held t fit = ap (map piece_of) (t.are fit) ∙ pieces_back t.pieces

pub held_within : (seen : List ℕ) (looked : Looked) (taken : Taken) (held : List FilePiece) → AreTaken seen looked taken held
    → taken.count ≤ length held → AreWithin seen (map piece_of (take taken.count held))
held_within seen looked taken held t fit =
    subst (AreWithin seen) (sym (held_are seen looked taken held t fit))
    (are_within seen looked.front (length seen) [] t.pieces t.cut.cut.0 t.cut.cut.1.are_pieces)

pub held_size : (seen : List ℕ) (looked : Looked) (taken : Taken) (held : List FilePiece) → AreTaken seen looked taken held
    → taken.count ≤ length held → taken.kept ≡ length (kept_row seen (map piece_of (take taken.count held)))
held_size seen looked taken held t fit =
    t.kept_is ∙ ap (λ (ps : List Piece). length (kept_row seen ps)) (sym (held_are seen looked taken held t fit))

-- fewer bytes are kept than 2^32
pub kept_small : (bytes : List ℕ) (looked : Looked) (taken : Taken) (held : List FilePiece)
    → AreTaken (seen_of bytes looked) looked taken held → length bytes < 4294967296 → taken.kept < 4294967296
kept_small bytes looked taken held t small =
    omega (
      arith,
      t.kept_is,
      small,
      row_length (seen_of bytes looked) looked.front t.pieces t.cut.cut,
      length-take (looked.front + looked.looked_at) bytes,
    )

pub code_within : (kind : FaultKind) → (1 ≤ kind_code kind) × (kind_code kind ≤ 10)
code_within Truncated = (omega arith, omega arith)
code_within HeaderSize = (omega arith, omega arith)
code_within Magic = (omega arith, omega arith)
code_within Protocol = (omega arith, omega arith)
code_within HeaderCrc = (omega arith, omega arith)
code_within (UndefinedLocal local) = (omega arith, omega arith)
code_within SplitMessage = (omega arith, omega arith)
code_within FileCrc = (omega arith, omega arith)
code_within TrailingBytes = (omega arith, omega arith)
code_within Memory = (omega arith, omega arith)

-- ---- the file in the buffer

header_is : (frame : Frame) (size : ℕ) → frame.header_size ≡ 14 → encoded_header frame size ≡ with_checksum (header_front frame size)
header_is frame size long = rw long refl

-- a header, a row and a checksum, one after another, are a file
pub framed_is : (frame : Frame) (row front sum body closing : List ℕ) (first last : ℕ)
    → frame.header_size ≡ 14 → front ≡ header_front frame (length row)
    → sum ≡ first % 256 ∷ first / 256 % 256 ∷ [] → first < 65536 → first ≡ crc front
    → body ≡ (front ++ sum) ++ row
    → closing ≡ last % 256 ∷ last / 256 % 256 ∷ [] → last < 65536 → last ≡ crc body
    → body ++ closing ≡ framed frame row
framed_is frame row front sum body closing first last long front_is sum_is small first_is body_is closing_is few last_is =
    let own : sum ≡ two_bytes Little (crc front) = checksum_bytes front sum first (crc front) 0 sum_is small first_is refl refl in
    let end : closing ≡ two_bytes Little (crc body) = checksum_bytes body closing last (crc body) 0 closing_is few last_is refl refl in
    let header : front ++ sum ≡ encoded_header frame (length row) =
    ap (λ (l : List ℕ). front ++ l) own ∙ ap with_checksum front_is ∙ sym (header_is frame (length row) long) in
    let whole : body ≡ encoded_header frame (length row) ++ row = body_is ∙ ap (λ (l : List ℕ). l ++ row) header in
    ap (λ (l : List ℕ). body ++ l) end ∙ ap with_checksum whole

-- the same, as they are written into a buffer
pub written_is : (frame : Frame) (row front sum closing o1 o2 o3 o4 none : List ℕ) (size first last : ℕ)
    → frame.header_size ≡ 14 → size ≡ length row → front ≡ header_front frame size
    → sum ≡ first % 256 ∷ first / 256 % 256 ∷ [] → first < 65536 → first ≡ crc front
    → closing ≡ last % 256 ∷ last / 256 % 256 ∷ [] → last < 65536 → last ≡ crc (take (14 + size) o3)
    → take (0 + length front) o1 ≡ take 0 none ++ front → take (12 + length sum) o2 ≡ take 12 o1 ++ sum
    → take (14 + length row) o3 ≡ take 14 o2 ++ row → take (14 + size + length closing) o4 ≡ take (14 + size) o3 ++ closing
    → take (size + 16) o4 ≡ framed frame row
written_is frame row front sum closing o1 o2 o3 o4 none size first last long size_is front_is sum_is small first_is closing_is few last_is
    one two three four =
    let long_front : length front ≡ 12 = ap length front_is in
    let long_sum : length sum ≡ 2 = ap length sum_is in
    let long_closing : length closing ≡ 2 = ap length closing_is in
    let twelve : 12 ≡ 0 + length front = omega (arith, long_front) in
    let two_more : 14 ≡ 12 + length sum = omega (arith, long_sum) in
    let whole : size + 16 ≡ 14 + size + length closing = omega (arith, long_closing) in
    let at_front : take 12 o1 ≡ front = ap (λ (n : ℕ). take n o1) twelve ∙ one in
    let at_header : take 14 o2 ≡ front ++ sum =
    ap (λ (n : ℕ). take n o2) two_more ∙ two ∙ ap (λ (l : List ℕ). l ++ sum) at_front in
    let at_row : take (14 + size) o3 ≡ (front ++ sum) ++ row =
    ap (λ (n : ℕ). take (14 + n) o3) size_is ∙ three ∙ ap (λ (l : List ℕ). l ++ row) at_header in
    ap (λ (n : ℕ). take n o4) whole ∙ four
    ∙ framed_is frame row front sum (take (14 + size) o3) closing first last long (front_is ∙ ap (header_front frame) size_is) sum_is small
    first_is at_row closing_is few last_is

-- how many bytes it has
pub framed_length : (frame : Frame) (row : List ℕ) → frame.header_size ≡ 14 → length (framed frame row) ≡ length row + 16
framed_length frame row long =
    let head = encoded_header frame (length row) in
    let whole = head ++ row in
    omega (
      arith,
      ap length (header_is frame (length row) long),
      length-append head row,
      length-append (header_front frame (length row)) (two_bytes Little (crc (header_front frame (length row)))),
      length-append whole (two_bytes Little (crc whole)),
    )
