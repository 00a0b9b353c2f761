-- How bytes are read, item by item and piece by piece.
use Rattle.std.proofs.Common.{◌≡◌, ℕ, min, ◌+◌, ◌-◌, ◌<◌, ◌≤◌, Bool, true, false, List, [], ◌∷◌, ◌++◌, length, take, drop, Option, Some, refl, sym, ap, subst, ◌∙◌, append_assoc, append-nil, arith}
use Rattle.std.specs.Prelude.{option_map, slice_range, nat_lt, if◌then◌else◌}
use Rattle.std.proofs.lemmas.Bool.{ltb-true, ltb-false}
use Rattle.std.proofs.lemmas.List.{drop-drop, length-drop, length-take}
use Rattle.fit_grammar.specs.declared.definition.Definition.{Definition}
use Rattle.fit_grammar.specs.declared.item.Item.{Item as ReadItem}
use Rattle.fit_grammar.specs.declared.item.Step.TheVariants as steps
use Rattle.fit_grammar.specs.Format.Item.{Item}
use Rattle.fit_grammar.specs.Format.Records.{RecordsAfter, in_force}
use Rattle.fit_grammar.specs.Calls.LentMessage.{LentMessage, message_lent}
use Rattle.fit_grammar.specs.Calls.Step.{item_of, IsStep}
use Rattle.fit_grammar.specs.Calls.Table.{in_force_after}
use Rattle.fit_grammar.proofs.OneItem.Spelling.{spelling_not_empty}
use Rattle.fit_mending.specs.declared.clock.Sign.{Sign}
use Rattle.fit_mending.specs.declared.pieces.Piece.{Piece}
use Rattle.fit_mending.specs.declared.progress.Progress.{Progress}
use Rattle.fit_mending.specs.Form.{comes_from_unwritten, runs_into_unwritten}
use Rattle.fit_mending.specs.Judged.{judged, judged_with, nothing}
use Rattle.fit_mending.specs.Private.Cut.{HasNoTrusted, LeavesFrom, PassesRow, ReadsAdded, ReadsUpTo}
use Rattle.fit_mending.specs.Private.Looking.{PassesOne, ReadsItem, sized}
use Rattle.fit_mending.specs.Reading.{IsNoted, IsWhole, IsWholeBy, MayBegin, ReadsFrom, ReadsPieces, ReadsRow, after_row, piece_if}
use Rattle.fit_mending.specs.Steady.{HasSound, IsSteady, IsTrusted, Sized, row_size}
use Rattle.fit_mending.proofs.Riding.{message_same}

-- an item that was read
pub reads_item : (f : ℕ → Option Definition) (p from p2 : Progress) (rest own : List ℕ) (item : ReadItem) (used : ℕ) (said : Option Sign) (sign : Sign)
    → MayBegin p from → IsStep f rest (steps.Item item used)
    → judged from (message_lent item from.clock.last) own ≡ option_map (λ s. judged_with s p2) said → own ≡ take used rest → said ≡ Some sign
    → runs_into_unwritten rest used ≡ false → IsWholeBy (item_of item) f p2 (drop used rest) → ReadsItem f p rest item used p2
reads_item f p from p2 rest own item used said sign begun step e own_is said_is whole followed = (
  from,
  judged_with sign p2,
  begun,
  record {
    at = step.states;
    is = ap (λ (m : Option LentMessage). judged from m (take used rest)) (message_same f from.clock.last item used step.lent)
        ∙ ap (judged from (message_lent item from.clock.last)) (sym own_is) ∙ e ∙ ap (option_map (λ s. judged_with s p2)) said_is;
  },
  refl,
  (whole, followed),
)

-- what is read after so many bytes, so that all is read from the front
pub passes_first : (f : ℕ → Option Definition) (p : Progress) (bytes : List ℕ) (row : List Sized) (after : Progress) (size : ℕ)
    → size ≡ row_size row → ReadsRow f p bytes row after → PassesRow f p bytes size (after_row f row) after
passes_first f p bytes row after size is reads = record { row = row; size = sym is; are = reads; next_are = refl }

pub passes_on : (f f2 g : ℕ → Option Definition) (p p2 q : Progress) (bytes : List ℕ) (front : ℕ) (item : ReadItem) (used : ℕ)
    → ((row : List Sized) (after : Progress) → ReadsRow f2 p2 (drop front bytes) row after
    → PassesRow f p bytes (front + row_size row) (after_row f2 row) after)
    → ReadsItem f2 p2 (drop front bytes) item used q → g ≡ in_force_after (item_of item) f2 → (row : List Sized) (after : Progress)
    → ReadsRow g q (drop (front + used) bytes) row after → PassesRow f p bytes (front + used + row_size row) (after_row g row) after
passes_on f f2 g p p2 q bytes front item used was one g_is row after reads =
    let here : ReadsRow (in_force_after (item_of item) f2) one.1.progress (drop used (drop front bytes)) row after =
    subst (λ (h : ℕ → Option Definition). ReadsRow h one.1.progress (drop used (drop front bytes)) row after) g_is
    (subst (λ (r : Progress). ReadsRow g r (drop used (drop front bytes)) row after) (sym one.4)
    (subst (λ (b : List ℕ). ReadsRow g q b row after) (sym (drop-drop used front bytes)) reads)) in
    let whole = subst (λ (r : Progress). IsWhole f2 r (drop front bytes) (sized item used)) (sym one.4) one.5 in
    let all = was (sized item used ∷ row) after (one.0, one.1, one.2, one.3, whole, here) in
    subst (λ (n : ℕ). PassesRow f p bytes n (after_row g row) after) (omega arith)
    (subst (λ (h : ℕ → Option Definition). PassesRow f p bytes (front + row_size (sized item used ∷ row)) (after_row h row) after) (sym g_is) all)

pub passes_end : (f f2 : ℕ → Option Definition) (p p2 q : Progress) (bytes : List ℕ) (front : ℕ)
    → ((row : List Sized) (after : Progress) → ReadsRow f2 p2 (drop front bytes) row after
    → PassesRow f p bytes (front + row_size row) (after_row f2 row) after)
    → q ≡ p2 → PassesRow f p bytes front f2 q
passes_end f f2 p p2 q bytes front was same = subst (λ (n : ℕ). PassesRow f p bytes n f2 q) (omega arith) (was [] q same)

-- where no item is found, no trusted row begins
pub never_trusted : (f : ℕ → Option Definition) (p p2 : Progress) (rest : List ℕ) (found : Option (ReadItem × ℕ))
    → ((quiet : ℕ) (one : Sized) (row : List Sized) → quiet < 32 → 32 ≤ length row → IsSteady f p quiet rest (one ∷ row)
    → PassesOne f p2 rest one row found)
    → ((item : ReadItem) (used : ℕ) → found ≡ Some (item, used) → ⊥) → IsTrusted f p rest → ⊥
never_trusted f p p2 rest found has nothing trusted = go trusted.0 trusted.1 trusted.2
  where
    go : (row : List Sized) → 256 ≤ length row → IsSteady f p 31 rest row → ⊥
    go [] long steady = absurd (omega (arith, long))
    go (one ∷ row) long steady = let next = has 31 one row (omega arith) (omega (arith, long)) steady in nothing next.item one.size next.found_is

-- one place more
pub none_more : (f : ℕ → Option Definition) (p : Progress) (bytes : List ℕ) (from end : ℕ) → HasNoTrusted f p bytes from end
    → (IsTrusted f p (drop end bytes) → ⊥) → HasNoTrusted f p bytes from (end + 1)
none_more f p bytes from end before here place least less trusted = by (nat_lt place end) refl
  where
    by : (b : Bool) → nat_lt place end ≡ b → ⊥
    by true is = before place least (ltb-true place end is) trusted
    by false is = here (subst (λ (n : ℕ). IsTrusted f p (drop n bytes)) (omega (arith, less, ltb-false place end is)) trusted)

-- and so many places more
pub none_after : (f : ℕ → Option Definition) (p : Progress) (bytes : List ℕ) (from at count : ℕ) → HasNoTrusted f p bytes from at
    → ((place : ℕ) → place < count → IsTrusted f p (drop place (drop at bytes)) → ⊥) → HasNoTrusted f p bytes from (at + count)
none_after f p bytes from at count before more place least less trusted = by (nat_lt place at) refl
  where
    by : (b : Bool) → nat_lt place at ≡ b → ⊥
    by true is = before place least (ltb-true place at is) trusted
    by false is =
        let most = ltb-false place at is in
        more (place - at) (omega (arith, less, most))
        (subst (IsTrusted f p) (sym (drop-drop (place - at) at bytes ∙ ap (λ (n : ℕ). drop n bytes) (omega (arith, most)))) trusted)

-- in two spans, one after the other
pub none_both : (f : ℕ → Option Definition) (p : Progress) (bytes : List ℕ) (from mid end : ℕ) → HasNoTrusted f p bytes from mid
    → HasNoTrusted f p bytes mid end → HasNoTrusted f p bytes from end
none_both f p bytes from mid end one other place least less trusted = by (nat_lt place mid) refl
  where
    by : (b : Bool) → nat_lt place mid ≡ b → ⊥
    by true is = one place least (ltb-true place mid is) trusted
    by false is = other place (ltb-false place mid is) less trusted

pub none_less : (f : ℕ → Option Definition) (p : Progress) (bytes : List ℕ) (from end most : ℕ) → HasNoTrusted f p bytes from most → end ≤ most
    → HasNoTrusted f p bytes from end
none_less f p bytes from end most none within place least less trusted = none place least (omega (arith, less, within)) trusted

pub none_from : (f : ℕ → Option Definition) (p : Progress) (bytes : List ℕ) (soon end : ℕ) → HasNoTrusted f p bytes soon end
    → end ≤ length bytes → HasNoTrusted f p bytes (min soon (length bytes)) end
none_from f p bytes soon end none within place least less trusted = none place (omega (arith, least, less, within)) less trusted

-- a row without a byte has no item
same_row : (f : ℕ → Option Definition) (p after : Progress) (bytes : List ℕ) (row : List Sized) → row_size row ≡ 0 → ReadsRow f p bytes row after
    → (after ≡ p) × (after_row f row ≡ f)
same_row f p after bytes [] none reads = (reads, refl)
same_row f p after bytes (one ∷ row) none reads =
    absurd (omega (
      arith,
      none,
      size_of one row,
      spelling_not_empty one.item (take one.size bytes) reads.3.at.spelled,
      length-take one.size bytes,
    ))
  where
    size_of : (one : Sized) (row : List Sized) → row_size (one ∷ row) ≡ one.size + row_size row
    size_of one row = refl

-- what is read with a piece before it that is kept
pub reads_kept : (f g : ℕ → Option Definition) (p after : Progress) (bytes : List ℕ) (start count : ℕ) (others : List Piece)
    → PassesRow f p (drop start bytes) count g after
    → ((sound last : List Sized) → 1 ≤ count → 32 ≤ length last → IsSteady f p 0 (drop start bytes) (sound ++ last) → row_size sound ≤ count)
    → (1 ≤ count → comes_from_unwritten bytes start ≡ false)
    → ReadsPieces bytes g after others → ReadsPieces bytes f p (piece_if start (start + count) true ++ others)
reads_kept f g p after bytes start count others passes steady begins reads = by (nat_lt start (start + count)) refl
  where
    some : nat_lt start (start + count) ≡ true → 1 ≤ count
    some less = omega (arith, ltb-true start (start + count) less)

    next : ReadsPieces bytes (after_row f passes.row) after others
    next = subst (λ (h : ℕ → Option Definition). ReadsPieces bytes h after others) passes.next_are reads

    by : (b : Bool) → nat_lt start (start + count) ≡ b → ReadsPieces bytes f p ((if b then record { start = start; end = start + count; kept = true } ∷ [] else []) ++ others)
    by true is_less = (
      passes.row,
      after,
      record {
        size = ap (λ (n : ℕ). start + n) passes.size;
        are = passes.are;
        steady = λ sound last long is. omega (arith, steady sound last (some is_less) long is);
      },
      begins (some is_less),
      next,
    )
    by false is =
        let none : row_size passes.row ≡ 0 = omega (arith, passes.size, ltb-false start (start + count) is) in
        let same = same_row f p after (drop start bytes) passes.row none passes.are in
        subst (λ (q : Progress). ReadsPieces bytes f q others) same.0
        (subst (λ (h : ℕ → Option Definition). ReadsPieces bytes h after others) same.1 next)

-- what is read with a piece before it that is left out
pub reads_left : (f : ℕ → Option Definition) (p after : Progress) (bytes : List ℕ) (start count from : ℕ) (others : List Piece)
    → LeavesFrom f p (drop start bytes) from count after → (from ≡ 1 → IsTrusted f p (drop start bytes) → comes_from_unwritten bytes start ≡ true) → from ≤ 1
    → ReadsPieces bytes f after others → ReadsPieces bytes f p (piece_if start (start + count) false ++ others)
reads_left f p after bytes start count from others leaves first most reads = by (nat_lt start (start + count)) refl
  where
    never : (place : ℕ) → start ≤ place → place < start + count → IsTrusted f p (drop place bytes) → comes_from_unwritten bytes place ≡ true
    never place least less trusted = test (nat_lt (place - start) from) refl
      where
        there : IsTrusted f p (drop (place - start) (drop start bytes))
        there = subst (IsTrusted f p) (sym (drop-drop (place - start) start bytes ∙ ap (λ (n : ℕ). drop n bytes) (omega (arith, least)))) trusted

        test : (b : Bool) → nat_lt (place - start) from ≡ b → comes_from_unwritten bytes place ≡ true
        test true is =
            let one = ltb-true (place - start) from is in
            let same : start ≡ place = omega (arith, one, most, least) in
            subst (λ (n : ℕ). comes_from_unwritten bytes n ≡ true) same
            (first (omega (arith, one, most)) (subst (λ (n : ℕ). IsTrusted f p (drop n bytes)) (sym same) trusted))
        test false is = absurd (leaves.none (place - start) (ltb-false (place - start) from is) (omega (arith, least, less)) there)

    by : (b : Bool) → nat_lt start (start + count) ≡ b → ReadsPieces bytes f p ((if b then record { start = start; end = start + count; kept = false } ∷ [] else []) ++ others)
    by true is = (
      after,
      record {
        begun = leaves.begun;
        none = never;
        same = λ trusted. leaves.there most (subst (IsTrusted f p) (sym (drop-drop count start bytes)) trusted);
        goes_on = λ less.
            subst (HasSound f after) (drop-drop count start bytes) (leaves.goes_on (omega (arith, less, length-drop start bytes)));
      },
      reads,
    )
    by false is = subst (λ (q : Progress). ReadsPieces bytes f q others) (leaves.same (omega (arith, ltb-false start (start + count) is))) reads

-- nothing yet
pub up_to_none : (bytes : List ℕ) (f : ℕ → Option Definition) (p : Progress) (taken : List Piece) → ReadsUpTo bytes f p taken f p taken
up_to_none bytes f p taken = ([], sym (append-nil taken), λ others reads. reads)

-- one more piece that is kept, and one that is left out
pub up_to_more : (bytes : List ℕ) (f g h : ℕ → Option Definition) (p q r s : Progress) (at count left : ℕ) (taken more kept all : List Piece)
    → ReadsUpTo bytes f p taken g q more → PassesRow g q (drop at bytes) count h r
    → ((sound last : List Sized) → 1 ≤ count → 32 ≤ length last → IsSteady g q 0 (drop at bytes) (sound ++ last) → row_size sound ≤ count)
    → (1 ≤ count → comes_from_unwritten bytes at ≡ false)
    → (IsTrusted h r (drop (at + count) bytes) → comes_from_unwritten bytes (at + count) ≡ true) → LeavesFrom h r (drop (at + count) bytes) 1 left s
    → kept ≡ more ++ piece_if at (at + count) true → all ≡ kept ++ piece_if (at + count) (at + count + left) false
    → ReadsUpTo bytes f p taken h s all
up_to_more bytes f g h p q r s at count left taken more kept all was passes steady begins ends leaves kept_is all_is =
    let one = piece_if at (at + count) true in
    let other = piece_if (at + count) (at + count + left) false in (
      was.0 ++ (one ++ other),
      all_is ∙ ap (λ (ps : List Piece). ps ++ other) kept_is ∙ append_assoc more one other
          ∙ ap (λ (ps : List Piece). ps ++ (one ++ other)) was.1 ∙ append_assoc taken was.0 (one ++ other),
      λ others reads.
          let second = reads_left h r s bytes (at + count) left 1 others leaves (λ _. ends) (omega arith) reads in
          let first = reads_kept g h q r bytes at count (other ++ others) passes steady begins second in
          subst (ReadsPieces bytes f p) (joined was.0 one other others)
          (was.2 (one ++ (other ++ others)) first),
    )
  where
    joined : (a b c d : List Piece) → a ++ (b ++ (c ++ d)) ≡ (a ++ (b ++ c)) ++ d
    joined a b c d = ap (λ (ps : List Piece). a ++ ps) (sym (append_assoc b c d)) ∙ sym (append_assoc a (b ++ c) d)

-- all that was added is read
pub up_to_all : (bytes : List ℕ) (f g : ℕ → Option Definition) (p q : Progress) (taken more : List Piece) → ReadsUpTo bytes f p taken g q more
    → (added : List Piece) × (more ≡ taken ++ added) × ReadsPieces bytes f p added
up_to_all bytes f g p q taken more was = (was.0, was.1, subst (ReadsPieces bytes f p) (append-nil was.0) (was.2 [] tt))

-- how all is read, by how the first piece, what is left out after it, and the rest are
pub reads_from : (before items : List Item) (bytes : List ℕ) (front count left : ℕ) (own next f : ℕ → Option Definition)
    (start after noted last : Progress) (kept all more : List Piece) → own ≡ in_force [] → start ≡ nothing
    → PassesRow own start (drop front bytes) count next after
    → ((sound last : List Sized) → 32 ≤ length last → IsSteady (in_force []) nothing 0 (drop front bytes) (sound ++ last) → row_size sound ≤ count)
    → RecordsAfter before (slice_range bytes front (front + count)) items → f ≡ in_force (before ++ items) → IsNoted after noted
    → LeavesFrom f noted (drop (front + count) bytes) 0 left last
    → kept ≡ piece_if front (front + count) true → all ≡ kept ++ piece_if (front + count) (front + count + left) false
    → ReadsAdded bytes f last all more → ReadsFrom before bytes front more
reads_from before items bytes front count left own next f start after noted last kept all more own_is start_is passes steady are f_is is_noted leaves kept_is all_is reads =
    let first = piece_if front (front + count) true in
    let second = piece_if (front + count) (front + count + left) false in
    record {
      end = front + count;
      row = passes.row;
      after = after;
      keeps = record {
        size = ap (λ (n : ℕ). front + n) passes.size;
        are = subst (λ (h : ℕ → Option Definition). ReadsRow h nothing (drop front bytes) passes.row after) own_is
            (subst (λ (p : Progress). ReadsRow own p (drop front bytes) passes.row after) start_is passes.are);
        steady = λ sound rest long is. omega (arith, steady sound rest long is);
      };
      items = items;
      are_records = are;
      noted = noted;
      is_noted = is_noted;
      others = second ++ reads.0;
      pieces_are = reads.1 ∙ ap (λ (ps : List Piece). ps ++ reads.0) (all_is ∙ ap (λ (ps : List Piece). ps ++ second) kept_is)
          ∙ append_assoc first second reads.0;
      others_are = subst (λ (h : ℕ → Option Definition). ReadsPieces bytes h noted (second ++ reads.0)) f_is
          (reads_left f noted last bytes (front + count) left 0 reads.0 leaves (λ one. absurd (omega (arith, one))) (omega arith) reads.2);
    }
