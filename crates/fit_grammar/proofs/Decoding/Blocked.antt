-- After a front at which no item begins, a prefix shows only what the bytes there show: for `Refused`.
use Rattle.std.proofs.Common.{◌≡◌, ℕ, ◌+◌, ◌<◌, ◌≤◌, List, [], ◌∷◌, ◌++◌, length, take, sym, ap, subst, ◌∙◌, append_assoc, arith, inl, inr}
use Rattle.std.proofs.lemmas.List.{length-append, length-take, append-nil}
use Rattle.fit_grammar.specs.declared.file.frame.Frame.{Frame}
use Rattle.fit_grammar.specs.declared.file.fault.FaultKind.{FaultKind}
use Rattle.fit_grammar.specs.declared.file.fault.FaultKind.TheVariants.{Truncated, HeaderSize, Magic, Protocol, HeaderCrc, UndefinedLocal, SplitMessage, FileCrc, TrailingBytes, Memory}
use Rattle.fit_grammar.specs.Format.Item.{Item}
use Rattle.fit_grammar.specs.Format.Refusal.{Front, front_bytes, front_end, IsFront, TailShows, place_after, ShowsAfter, Shows}
use Rattle.fit_grammar.proofs.OneItem.Spelling.{spelling_not_empty}
use Rattle.fit_grammar.proofs.Decoding.Headers.{header_quiet}
use Rattle.fit_grammar.proofs.Decoding.Quiet.{ItemInside}
use Rattle.fit_grammar.proofs.Decoding.Alignment.{GoesOn}
use Rattle.fit_grammar.proofs.Decoding.Fronts.{ShowsLater, later}

-- the rest begins with no item that fits into the data
abbrev pub Blocked : Front → List ℕ → Type 0
Blocked f rest = (item : Item) (own u : List ℕ) → rest ≡ own ++ u → ItemInside f item own u → ⊥

-- no tail shorter than this shows a fault
abbrev pub Mute : Front → List ℕ → ℕ → Type 0
Mute f rest limit = (kind : FaultKind) (tail after : List ℕ) → rest ≡ tail ++ after → length tail < limit → TailShows kind f tail → ⊥

-- a fault that is shown right after a front
pub record ShowsHere (f : Front) (rest : List ℕ) (count : ℕ) (kind : FaultKind) (place : ℕ) : Type 0 where
  pub tail : List ℕ
  pub after : List ℕ
  pub rest_is : rest ≡ tail ++ after
  pub shown : TailShows kind f tail
  pub there : place ≡ place_after kind f
  pub count_is : count ≡ front_end f + length tail

abbrev front_by : Frame → ℕ → List ℕ → List ℕ → List Item → Front
front_by frame size header records items = record { frame = frame; size = size; header = header; records = records; items = items }

same_front : (f g : Front) → f.frame ≡ g.frame → f.size ≡ g.size → f.header ≡ g.header → f.records ≡ g.records → f.items ≡ g.items → f ≡ g
same_front f g a b c d e =
    ap (λ (x : Frame). front_by x f.size f.header f.records f.items) a ∙ ap (λ (x : ℕ). front_by g.frame x f.header f.records f.items) b
    ∙ ap (λ (x : List ℕ). front_by g.frame g.size x f.records f.items) c ∙ ap (λ (x : List ℕ). front_by g.frame g.size g.header x f.items) d
    ∙ ap (λ (x : List Item). front_by g.frame g.size g.header g.records x) e

-- if one front continues another with an item, that item begins the rest, within the data
pub item_blocked : (f : Front) (rest : List ℕ) (count : ℕ) (kind : FaultKind) (place : ℕ) (item : Item)
    (others : List Item) → ShowsLater f rest count kind place (item ∷ others) → Blocked f rest → ⊥
item_blocked f rest count kind place item others s blocked =
    let first = s.goes_on.1 in
    let joined : rest ≡ first.own ++ (s.goes_on.0 ++ (s.tail ++ s.after)) = s.rest_is
    ∙ ap (λ (l : List ℕ). l ++ (s.tail ++ s.after)) first.joined ∙ append_assoc first.own s.goes_on.0 (s.tail ++ s.after) in
    let inside : length f.records + length first.own ≤ f.size =
    omega (
      arith,
      s.is_front.inside,
      s.size_is,
      ap length s.records_are,
      length-append f.records s.bytes,
      ap length
          first.joined,
      length-append first.own s.goes_on.0,
    ) in
    blocked item first.own (s.goes_on.0 ++ (s.tail ++ s.after)) joined
    (record { spelled = first.spelled; defined = first.defined; inside = inside })

shows_right_here : (f : Front) (rest : List ℕ) (count : ℕ) (kind : FaultKind) (place : ℕ)
    → ShowsLater f rest count kind place [] → ShowsHere f rest count kind place
shows_right_here f rest count kind place s =
    let none : s.bytes ≡ [] = s.goes_on in
    let same : s.front ≡ f = same_front s.front f (sym s.frame_is) (sym s.size_is) (sym s.header_is)
    (s.records_are ∙ ap (λ (l : List ℕ). f.records ++ l) none ∙ append-nil f.records) (s.items_are ∙ append-nil f.items) in
    record {
      tail = s.tail;
      after = s.after;
      rest_is = s.rest_is ∙ ap (λ (l : List ℕ). l ++ (s.tail ++ s.after)) none;
      shown = subst (λ (g : Front). TailShows kind g s.tail) same s.shown;
      there = s.there ∙ ap (place_after kind) same;
      count_is = omega (arith, s.count_is, ap length none);
    }

pub tail_not_empty : (kind : FaultKind) (g : Front) (tail : List ℕ) → TailShows kind g tail → 1 ≤ length tail
tail_not_empty (UndefinedLocal local) g tail sh = omega (arith, ap length sh.3)
tail_not_empty SplitMessage g tail (lt, inl h) = omega (arith, ap length h.1)
tail_not_empty SplitMessage g tail (lt, inr (inl h)) = omega (arith, h.0)
tail_not_empty SplitMessage g tail (lt, inr (inr h)) = omega (arith, h.0)
tail_not_empty FileCrc g tail sh = omega (arith, sh.1)
tail_not_empty TrailingBytes g tail sh = omega (arith, sh.1)
tail_not_empty HeaderSize g tail sh = absurd sh
tail_not_empty Protocol g tail sh = absurd sh
tail_not_empty Magic g tail sh = absurd sh
tail_not_empty HeaderCrc g tail sh = absurd sh
tail_not_empty Truncated g tail sh = absurd sh
tail_not_empty Memory g tail sh = absurd sh

-- after a front the header shows no fault
pub follows : (kind : FaultKind) (place n : ℕ) (b : List ℕ) (f : Front) (rest : List ℕ) → IsFront f
    → b ≡ front_bytes f ++ rest → Shows kind place (take n b) → ShowsAfter kind place (take n b)
follows kind place n b f rest p e (inr s) = s
follows kind place n b f rest p e (inl s) =
    let joined : b ≡ f.header ++ (f.records ++ rest) = e ∙ append_assoc f.header f.records rest in
    absurd (header_quiet kind place n f.header f.frame f.size (f.records ++ rest) p.is_header (rw joined at s))

mute_here : (more : List Item) (b : List ℕ) (f : Front) (rest : List ℕ) (limit n : ℕ) (kind : FaultKind) (place : ℕ)
    → ShowsLater f rest (length (take n b)) kind place more → (2 < limit → Blocked f rest) → Mute f rest limit → n < front_end f + limit → ⊥
mute_here [] b f rest limit n kind place s blocked mute lt =
    let h = shows_right_here f rest (length (take n b)) kind place s in
    mute kind h.tail h.after h.rest_is (omega (arith, h.count_is, length-take n b)) h.shown
mute_here (item ∷ others) b f rest limit n kind place s blocked mute lt =
    let first = s.goes_on.1 in
    let some = spelling_not_empty item first.own first.spelled in
    let more : 2 < limit = omega (
      arith,
      s.count_is,
      length-take n b,
      ap length first.joined,
      length-append first.own
          s.goes_on.0,
      tail_not_empty kind s.front s.tail s.shown,
    ) in
    item_blocked f rest (length (take n b)) kind place item others s (blocked more)

-- no prefix that ends sooner than a tail after the front shows a fault
pub quiet_after : (b : List ℕ) (f : Front) (rest : List ℕ) (limit : ℕ) → IsFront f → b ≡ front_bytes f ++ rest
    → (2 < limit → Blocked f rest) → Mute f rest limit → (n : ℕ) (kind : FaultKind) (place : ℕ)
    → n < front_end f + limit → Shows kind place (take n b) → ⊥
quiet_after b f rest limit p e blocked mute n kind place lt s =
    let l = later kind place n b f rest p e (follows kind place n b f rest p e s) in
    mute_here l.0 b f rest limit n kind place l.1 blocked mute lt

-- a row that continues with an item: the item begins the rest, within the data
pub blocked_row : (f g : Front) (rest y : List ℕ) (item : Item) (others : List Item) → IsFront g → f.size ≡ g.size
    → GoesOn [] f.records f.items rest g.records g.items y (item ∷ others) → Blocked f rest → ⊥
blocked_row f g rest y item others q size go blocked =
    let first = go.goes_on.1 in
    let joined : rest ≡ first.own ++ (go.goes_on.0 ++ y) = go.rest_is ∙ ap (λ (l : List ℕ). l ++ y) first.joined
    ∙ append_assoc first.own go.goes_on.0 y in
    let inside : length f.records + length first.own ≤ f.size =
    omega (
      arith,
      q.inside,
      size,
      ap length go.bytes_are,
      length-append f.records go.bytes,
      ap length first.joined,
      length-append first.own go.goes_on.0,
    ) in
    blocked item first.own (go.goes_on.0 ++ y) joined (record { spelled = first.spelled; defined = first.defined; inside = inside })
