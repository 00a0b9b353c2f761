-- One more piece after others.
use Rattle.std.proofs.Common.{◌≡◌, ℕ, ◌+◌, ◌-◌, ◌<◌, ◌≤◌, Bool, true, false, List, [], ◌∷◌, ◌++◌, length, take, drop, Option, refl, sym, ap, subst, ◌∙◌, append_assoc, append-nil, arith}
use Rattle.std.proofs.lemmas.List.{length-append, length-drop, length-take}
use Rattle.std.specs.Prelude.{flat_map, slice_range, nat_lt, if◌then◌else◌}
use Rattle.std.proofs.lemmas.Bool.{lt-ltb, ltb-true}
use Rattle.std.proofs.lemmas.Grind.{flat_map-append}
use Rattle.fit_grammar.specs.Format.Item.{Item}
use Rattle.fit_grammar.specs.Format.Records.{Records, RecordsAfter, in_force}
use Rattle.fit_mending.specs.declared.pieces.Piece.{Piece}
use Rattle.fit_mending.specs.Pieces.{IsPieceAt, AreItems, ArePieces, AreCut, AreCutFrom, HasFirst, KeepsFirst, piece_bytes, kept_by, kept_of, kept_row}
use Rattle.fit_mending.specs.Pieces.{AreWithin}
use Rattle.fit_mending.specs.Private.Cut.{AddsPiece, CutsTo, HasAdded, piece_from}
use Rattle.fit_mending.specs.Private.Passed.{HasPassed}
use Rattle.fit_grammar.specs.declared.definition.Definition.{Definition}
use Rattle.fit_mending.proofs.Rows.{no_items, records_after, records_append}

pieces_more : (bytes : List ℕ) (from at : ℕ) (before : List Item) (pieces : List Piece) (items own : List Item) (piece : Piece)
    → ArePieces bytes from at before pieces items → IsPieceAt bytes at piece
    → AreItems piece.kept (before ++ items) (piece_bytes bytes piece) own
    → ArePieces bytes from piece.end before (pieces ++ piece ∷ []) (items ++ own)
pieces_more bytes from at before [] items own piece p at_is are =
    let none : before ++ items ≡ before = ap (λ (is : List Item). before ++ is) p.1 ∙ append-nil before in (
      own,
      [],
      subst (λ (n : ℕ). IsPieceAt bytes n piece) (sym p.0) at_is,
      subst (λ (is : List Item). AreItems piece.kept is (piece_bytes bytes piece) own) none are,
      ap (λ (is : List Item). is ++ own) p.1 ∙ sym (append-nil own),
      (refl, refl),
    )
pieces_more bytes from at before (first ∷ pieces) items own piece p at_is are =
    let joined : before ++ items ≡ (before ++ p.0) ++ p.1 =
    ap (λ (is : List Item). before ++ is) p.4 ∙ sym (append_assoc before p.0 p.1) in (
      p.0,
      p.1 ++ own,
      p.2,
      p.3,
      ap (λ (is : List Item). is ++ own) p.4 ∙ append_assoc p.0 p.1 own,
      pieces_more bytes first.end at (before ++ p.0) pieces p.1 own piece p.5 at_is
          (subst (λ (is : List Item). AreItems piece.kept is (piece_bytes bytes piece) own) joined are),
    )

pub row_more : (bytes : List ℕ) (pieces : List Piece) (piece : Piece)
    → kept_row bytes (pieces ++ piece ∷ []) ≡ kept_row bytes pieces ++ kept_of bytes piece
row_more bytes pieces piece =
    flat_map-append (kept_of bytes) pieces (piece ∷ []) ∙ ap (λ (l : List ℕ). kept_row bytes pieces ++ l) (append-nil (kept_of bytes piece))

records_more : (before : List Item) (kept : Bool) (row : List ℕ) (items own : List Item) (bytes : List ℕ) → RecordsAfter before row items
    → AreItems kept (before ++ items) bytes own → RecordsAfter before (row ++ kept_by kept bytes) (items ++ own)
records_more before true row items own bytes are more = records_append before row items bytes own are more
records_more before false row items own bytes are none =
    subst (λ (l : List ℕ). RecordsAfter before l (items ++ own)) (sym (append-nil row))
    (subst (RecordsAfter before row) (sym (ap (λ (is : List Item). items ++ is) none ∙ append-nil items)) are)

-- nothing yet
pub cut_none : (before : List Item) (bytes : List ℕ) (at : ℕ) → AreCut before bytes at at [] []
cut_none before bytes at = record { are_pieces = (refl, refl); are_records = refl }

-- one more piece
cut_more : (before : List Item) (bytes : List ℕ) (from : ℕ) (items own : List Item) (pieces : List Piece) (piece : Piece)
    → AreCut before bytes from piece.start items pieces → IsPieceAt bytes piece.start piece
    → AreItems piece.kept (before ++ items) (piece_bytes bytes piece) own
    → AreCut before bytes from piece.end (items ++ own) (pieces ++ piece ∷ [])
cut_more before bytes from items own pieces piece cut at_is are = record {
  are_pieces = pieces_more bytes from piece.start before pieces items own piece cut.are_pieces at_is are;
  are_records = subst (λ (l : List ℕ). RecordsAfter before l (items ++ own)) (sym (row_more bytes pieces piece))
      (records_more before piece.kept (kept_row bytes pieces) items own (piece_bytes bytes piece) cut.are_records are);
}

pub adds_piece : (bytes : List ℕ) (pieces : List Piece) (start end : ℕ) (kept : Bool) → start < end → end ≤ length bytes
    → AddsPiece bytes start end kept pieces (pieces ++ piece_from start end kept ∷ [])
adds_piece bytes pieces start end kept some within = record {
  row = row_more bytes pieces (piece_from start end kept);
  cut = λ before from items own cut are.
      cut_more before bytes from items own pieces (piece_from start end kept) cut
      (record { start = refl; some = some; within = within }) are;
  added = (piece_from start end kept ∷ [], refl);
  first = λ none more. ap (λ (ps : List Piece). ps ++ piece_from start end kept ∷ []) none;
  one = ap (λ (b : Bool). pieces ++ (if b then piece_from start end kept ∷ [] else [])) (sym (lt-ltb start end some));
}

-- a piece of no bytes has no items
none_kept : (kept : Bool) (items own : List Item) (bytes : List ℕ) → length bytes ≡ 0 → AreItems kept items bytes own → own ≡ []
none_kept true items own bytes none are = no_items items bytes own are none
none_kept false items own bytes none are = are

nothing_by : (kept : Bool) (bytes : List ℕ) → length bytes ≡ 0 → kept_by kept bytes ≡ []
nothing_by true [] none = refl
nothing_by true (byte ∷ bytes) none = absurd (omega (arith, none))
nothing_by false bytes none = refl

ltb-none : (start end : ℕ) → start ≡ end → nat_lt start end ≡ false
ltb-none start end same = by (nat_lt start end) refl
  where
    by : (b : Bool) → nat_lt start end ≡ b → b ≡ false
    by true is = absurd (omega (arith, same, ltb-true start end is))
    by false is = refl

pub adds_none : (bytes : List ℕ) (pieces : List Piece) (start end : ℕ) (kept : Bool) → start ≡ end
    → AddsPiece bytes start end kept pieces pieces
adds_none bytes pieces start end kept same =
    let own_bytes = slice_range bytes start end in
    let no : length own_bytes ≡ 0 = omega (arith, same, length-take (end - start) (drop start bytes), length-drop start bytes) in
    record {
      row = sym (ap (λ (l : List ℕ). kept_row bytes pieces ++ l) (nothing_by kept own_bytes no) ∙ append-nil (kept_row bytes pieces));
      cut = λ before from items own cut are.
          let none : own ≡ [] = none_kept kept (before ++ items) own own_bytes no are in
          subst (λ (n : ℕ). AreCut before bytes from n (items ++ own) pieces) same
          (subst (λ (is : List Item). AreCut before bytes from start is pieces)
          (sym (ap (λ (is : List Item). items ++ is) none ∙ append-nil items)) cut);
      added = ([], sym (append-nil pieces));
      first = λ none some. absurd (omega (arith, same, some));
      one = sym (append-nil pieces) ∙ ap (λ (b : Bool). pieces ++ (if b then piece_from start end kept ∷ [] else [])) (sym (ltb-none start end same));
    }

-- no piece yet
pub cuts_none : (bytes : List ℕ) (at : ℕ) (f : ℕ → Option Definition) (taken : List Piece) → CutsTo bytes at f taken at f taken
cuts_none bytes at f taken = λ before items front e cut. (items, e, cut)

-- the first bytes after a place, as those from it to another
pub from_to : (bytes : List ℕ) (at count : ℕ) → take count (drop at bytes) ≡ slice_range bytes at (at + count)
from_to bytes at count = ap (λ (n : ℕ). take n (drop at bytes)) (omega arith)

-- one more piece that is kept, and one that is left out
pub cuts_more : (bytes : List ℕ) (from : ℕ) (f g h : ℕ → Option Definition) (at count to : ℕ) (taken more kept left : List Piece)
    → CutsTo bytes from f taken at g more
    → ((before : List Item) → g ≡ in_force before → HasPassed before (drop at bytes) count h)
    → AddsPiece bytes at (at + count) true more kept → AddsPiece bytes (at + count) to false kept left
    → CutsTo bytes from f taken to h left
cuts_more bytes from f g h at count to taken more kept left was passes adds leaves = λ before items front e cut.
    let so_far = was before items front e cut in
    let all = so_far.0 in
    let p = passes (before ++ all) so_far.1 in
    let are : RecordsAfter (before ++ all) (slice_range bytes at (at + count)) p.items =
    subst (λ (l : List ℕ). RecordsAfter (before ++ all) l p.items) (from_to bytes at count) p.are_records in
    let one = adds.cut before front all p.items so_far.2 are in (
      (all ++ p.items) ++ [],
      p.in_force_are ∙ ap in_force (append_assoc before all p.items
          ∙ ap (λ (is : List Item). before ++ is) (sym (append-nil (all ++ p.items)))),
      leaves.cut before front (all ++ p.items) [] one refl,
    )

-- the first piece that is kept, under its own definitions alone, and the first one that is left out
pub cuts_first : (before : List Item) (bytes : List ℕ) (front count to : ℕ) (own : ℕ → Option Definition) (kept left : List Piece)
    → (p : HasPassed [] (drop front bytes) count own) → AddsPiece bytes front (front + count) true [] kept
    → AddsPiece bytes (front + count) to false kept left → AreCut before bytes front to (p.items ++ []) left
cuts_first before bytes front count to own kept left p adds leaves =
    let row = slice_range bytes front (front + count) in
    let are : RecordsAfter before row p.items =
    records_after before row p.items (subst (λ (l : List ℕ). Records l p.items) (from_to bytes front count) p.are_records) in
    let one = adds.cut before front [] p.items (cut_none before bytes front)
    (subst (λ (is : List Item). RecordsAfter is row p.items) (sym (append-nil before)) are) in
    leaves.cut before front p.items [] one refl

-- no more bytes are kept than there are
kept_most : (kept : Bool) (own : List ℕ) → length (kept_by kept own) ≤ length own
kept_most true own = omega arith
kept_most false own = omega arith

pub kept_length : (bytes : List ℕ) (from to : ℕ) (before : List Item) (pieces : List Piece) (items : List Item)
    → ArePieces bytes from to before pieces items → from + length (flat_map (kept_of bytes) pieces) ≤ to
kept_length bytes from to before [] items p = omega (arith, p.0)
kept_length bytes from to before (piece ∷ pieces) items p =
    omega (
      arith,
      p.2.start,
      p.2.some,
      p.2.within,
      kept_most piece.kept (piece_bytes bytes piece),
      length-take (piece.end - piece.start) (drop piece.start bytes),
      length-append (kept_of bytes piece) (flat_map (kept_of bytes) pieces),
      kept_length bytes piece.end to (before ++ p.0) pieces p.1 p.5,
    )

pub row_length : {before : List Item} (bytes : List ℕ) (from : ℕ) (pieces : List Piece) → AreCutFrom before bytes from pieces
    → length (kept_row bytes pieces) ≤ length bytes
row_length {before} bytes from pieces cut = omega (arith, kept_length bytes from (length bytes) before pieces cut.0 cut.1.are_pieces)

-- the pieces are within the bytes
pub are_within : (bytes : List ℕ) (from to : ℕ) (before : List Item) (pieces : List Piece) (items : List Item)
    → ArePieces bytes from to before pieces items → AreWithin bytes pieces
are_within bytes from to before [] items p = tt
are_within bytes from to before (piece ∷ pieces) items p =
    (omega (arith, p.2.some), p.2.within, are_within bytes piece.end to (before ++ p.0) pieces p.1 p.5)

-- the first piece begins the longest row of whole items
kept_items : (kept : Bool) (items : List Item) (bytes : List ℕ) → kept ≡ true → AreItems kept [] bytes items → Records bytes items
kept_items true items bytes kept are = are
kept_items false items bytes kept are = absurd (cc)

has_first : (bytes : List ℕ) (from to : ℕ) (pieces : List Piece) (items : List Item) → ArePieces bytes from to [] pieces items
    → HasFirst bytes from pieces
has_first bytes from to [] items p = tt
has_first bytes from to (piece ∷ pieces) items p = λ kept. record {
  start = p.2.start;
  within = λ longest is.
      let own : Records (take (piece.end - piece.start) (drop piece.start bytes)) p.0 =
      kept_items piece.kept p.0 (piece_bytes bytes piece) kept p.3 in
      let here : Records (take (piece.end - from) (drop from bytes)) p.0 =
      subst (λ (n : ℕ). Records (take (piece.end - n) (drop n bytes)) p.0) p.2.start own in
      let most = is.longest (piece.end - from) p.0 (omega (arith, p.2.within, length-drop from bytes)) here in
      omega (arith, most, p.2.some, p.2.start);
}

pub first_if : (before : List Item) (bytes : List ℕ) (from to : ℕ) (pieces : List Piece) (items : List Item)
    → ArePieces bytes from to before pieces items → before ≡ [] → HasFirst bytes from pieces
first_if before bytes from to pieces items p none =
    has_first bytes from to pieces items (subst (λ (is : List Item). ArePieces bytes from to is pieces items) none p)

-- what was added first, and what was added after it
pub added_more : (taken more all : List Piece) → HasAdded taken more → HasAdded more all → HasAdded taken all
added_more taken more all a b = (a.0 ++ b.0, b.1 ∙ ap (λ (ps : List Piece). ps ++ b.0) a.1 ∙ append_assoc taken a.0 b.0)

-- the first piece is kept up to a place, whatever is added to it
pub keeps_first : (bytes : List ℕ) (from to end : ℕ) (more all : List Piece) → AddsPiece bytes from end true [] more → HasAdded more all
    → to ≤ end → KeepsFirst from to all
keeps_first bytes from to end more all adds added most = λ less. (
  piece_from from end true,
  added.0,
  added.1 ∙ ap (λ (ps : List Piece). ps ++ added.0) (adds.first refl (omega (arith, less, most))),
  refl,
  refl,
  most,
)
