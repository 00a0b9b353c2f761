-- From what the bytes after a front show to the refusal of all bytes: for each exit below.
use Rattle.std.proofs.Common.{◌≡◌, ℕ, ◌+◌, ◌<◌, List, [], ◌∷◌, ◌++◌, length, take, refl, sym, ap, ◌∙◌, append_assoc, arith, inl, inr}
use Rattle.std.proofs.Math.Seq.{take-append_seam}
use Rattle.std.proofs.lemmas.List.{length-append, append-nil}
use Rattle.fit_base.specs.Number.{low_first}
use Rattle.fit_grammar.specs.declared.file.fault.FaultKind.{FaultKind}
use Rattle.fit_grammar.specs.declared.file.fault.FaultKind.TheVariants.{Truncated, HeaderSize, Magic, Protocol, HeaderCrc, UndefinedLocal, SplitMessage, FileCrc, TrailingBytes, Memory}
use Rattle.fit_grammar.specs.Format.File.{FileValue, FileOf, IsClosing}
use Rattle.fit_grammar.specs.Format.Refusal.{Front, front_bytes, front_end, IsFront, TailShows, place_after, Shows, Refusal}
use Rattle.fit_grammar.specs.Calls.Pieces.{ShowsNothing}
use Rattle.fit_grammar.proofs.Decoding.Alignment.{longer, shorter}
use Rattle.fit_grammar.proofs.OneItem.Spelling.{spelling_not_empty, bytes_one}
use Rattle.fit_grammar.proofs.Decoding.Fronts.{same_fronts, file_front, file_is_front}
use Rattle.fit_grammar.proofs.Decoding.Blocked.{Blocked, Mute, quiet_after, blocked_row}

-- after all the records no item begins within the data
pub closed_blocked : (f : Front) (rest : List ℕ) → length f.records ≡ f.size → Blocked f rest
closed_blocked f rest e item own u joined p = omega (arith, p.inside, spelling_not_empty item own p.spelled)

-- after a right checksum, a tail of fewer than three bytes shows no fault
pub closing_mute : (kind : FaultKind) (f : Front) (closing after tail more : List ℕ) → length f.records ≡ f.size
    → IsClosing (front_bytes f) closing → closing ++ after ≡ tail ++ more → length tail < 3 → TailShows kind f tail → ⊥
closing_mute FileCrc f closing after tail more full c is lt sh =
    let one = bytes_one closing tail after more (c.whole ∙ sym sh.1) is in
    sh.2 (sym (ap low_first one.0) ∙ c.right)
closing_mute TrailingBytes f closing after tail more full c is lt sh = omega (arith, sh.1)
closing_mute (UndefinedLocal local) f closing after tail more full c is lt sh = omega (arith, sh.0)
closing_mute SplitMessage f closing after tail more full c is lt sh = omega (arith, sh.0)
closing_mute HeaderSize f closing after tail more full c is lt sh = sh
closing_mute Protocol f closing after tail more full c is lt sh = sh
closing_mute Magic f closing after tail more full c is lt sh = sh
closing_mute HeaderCrc f closing after tail more full c is lt sh = sh
closing_mute Truncated f closing after tail more full c is lt sh = sh
closing_mute Memory f closing after tail more full c is lt sh = sh

-- the bytes after a front, if none of their tails shorter than this shows a fault
pub record Stands (b : List ℕ) (f : Front) (rest : List ℕ) (limit : ℕ) : Type 0 where
  pub is_front : IsFront f
  pub joined : b ≡ front_bytes f ++ rest
  pub blocked : 2 < limit → Blocked f rest
  pub mute : Mute f rest limit

pub quiet : (b : List ℕ) (f : Front) (rest : List ℕ) (limit : ℕ) → Stands b f rest limit
    → (n : ℕ) (kind : FaultKind) (place : ℕ) → n < front_end f + limit → Shows kind place (take n b) → ⊥
quiet b f rest limit s n kind place lt h = quiet_after b f rest limit s.is_front s.joined s.blocked s.mute n kind place lt h

-- the prefix that ends with a tail after the front
beginning : (b : List ℕ) (f : Front) (tail after : List ℕ) → b ≡ front_bytes f ++ (tail ++ after)
    → take (front_end f + length tail) b ≡ front_bytes f ++ tail
beginning b f tail after e =
    let long : front_end f + length tail ≡ length (front_bytes f ++ tail) =
    omega (arith, length-append (front_bytes f) tail, length-append f.header f.records) in
    ap (λ (k : ℕ). take k b) long ∙ ap (λ (l : List ℕ). take (length (front_bytes f ++ tail)) l)
    (e ∙ sym (append_assoc (front_bytes f) tail after)) ∙ take-append_seam (front_bytes f ++ tail) after

-- a tail that shows a fault
pub refused : (kind : FaultKind) (b : List ℕ) (f : Front) (tail after : List ℕ)
    → Stands b f (tail ++ after) (length tail) → TailShows kind f tail → Refusal b kind (place_after kind f)
refused kind b f tail after s h =
    inl (record {
      count = front_end f + length tail;
      within = omega (
        arith,
        ap length s.joined,
        length-append (front_bytes f) (tail ++ after),
        length-append f.header
            f.records,
        length-append tail after,
      );
      shown = inr (record {
        front = f;
        tail = tail;
        is_front = s.is_front;
        joined = beginning b f tail after s.joined;
        shown = h;
        there = refl;
      });
      shortest = λ n other at lt shown. quiet b f (tail ++ after) (length tail) s n other at lt shown;
    })

-- the bytes are no file if they end too soon after a front
no_file_after : (b : List ℕ) (f : Front) (rest : List ℕ) → IsFront f → b ≡ front_bytes f ++ rest → Blocked f rest
    → (length f.records ≡ f.size → length rest < 2) → (v : FileValue) → FileOf b v → ⊥
no_file_after b f rest p e blocked unclosed v h =
    let g = file_front b v h in
    let q = file_is_front b v h in
    let same = same_fronts f g rest h.closing p q (sym e ∙ h.joined) in
    elim same.records [
      | longer [] go ↦
          let none : go.bytes ≡ [] = go.goes_on in
          let ends = unclosed (omega (arith, same.size, ap length go.bytes_are, length-append f.records go.bytes, ap length none)) in
          absurd (omega (arith, ends, ap length go.rest_is, length-append go.bytes h.closing, ap length none, h.is_closing.whole))
      | longer (item ∷ others) go ↦ blocked_row f g rest h.closing item others q same.size go blocked
      | shorter item others go ↦
          let first = go.goes_on.1 in
          let some = spelling_not_empty item first.own first.spelled in
          absurd (omega (
            arith,
            p.inside,
            same.size,
            ap length go.bytes_are,
            length-append g.records go.bytes,
            ap length first.joined,
            length-append first.own go.goes_on.0,
          ))
    ]

-- the bytes end too soon
pub cut_short : (b : List ℕ) (f : Front) (rest : List ℕ) → Stands b f rest (length rest + 1) → Blocked f rest
    → (length f.records ≡ f.size → length rest < 2) → Refusal b Truncated (length b)
cut_short b f rest s blocked unclosed =
    inr (record {
      truncated = refl;
      at_end = refl;
      none_shown = λ n other at le shown. quiet b f rest (length rest + 1) s n other at
          (omega (arith, ap length s.joined, length-append (front_bytes f) rest, length-append f.header f.records)) shown;
      no_file = no_file_after b f rest s.is_front s.joined blocked unclosed;
    })

-- no prefix of a file shows a fault
pub file_shows_nothing : (b : List ℕ) (v : FileValue) → FileOf b v → ShowsNothing b
file_shows_nothing b v h = λ n kind place le shown.
    let g = file_front b v h in
    let s : Stands b g h.closing 3 = record {
      is_front = file_is_front b v h;
      joined = h.joined;
      blocked = λ more. closed_blocked g h.closing refl;
      mute = λ other tail after e lt shown. closing_mute other g h.closing [] tail after refl h.is_closing
          (append-nil h.closing ∙ e) lt shown;
    } in
    quiet b g h.closing 3 s n kind place (omega (
      arith,
      le,
      ap length h.joined,
      length-append (front_bytes g) h.closing,
      length-append g.header g.records,
      h.is_closing.whole,
    )) shown

-- a file is not refused
pub file_not_refused : (b : List ℕ) (v : FileValue) (kind : FaultKind) (place : ℕ) → FileOf b v → Refusal b kind place → ⊥
file_not_refused b v kind place h (inr r) = r.no_file v h
file_not_refused b v kind place h (inl r) = file_shows_nothing b v h r.count kind place r.within r.shown
