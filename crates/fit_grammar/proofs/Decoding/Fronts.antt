-- What a prefix of a file shows, given a front of the file: only what comes after that front. For `Blocked`, `Refused` and
-- `HeaderRefused`.
use Rattle.std.proofs.Common.{◌≡◌, ℕ, ◌+◌, ◌≤◌, List, [], ◌++◌, length, take, drop, sym, ap, ◌∙◌, append_assoc, arith}
use Rattle.std.proofs.lemmas.List.{take-append-drop, length-append}
use Rattle.fit_grammar.specs.declared.file.fault.FaultKind.{FaultKind}
use Rattle.fit_grammar.specs.Format.Item.{Item}
use Rattle.fit_grammar.specs.Format.Records.{RecordsAfter}
use Rattle.fit_grammar.specs.Format.File.{FileValue, FileOf}
use Rattle.fit_grammar.specs.Format.Refusal.{Front, front_bytes, front_end, IsFront, TailShows, place_after, ShowsAfter}
use Rattle.fit_grammar.proofs.Decoding.Alignment.{Aligned, longer, shorter, aligned}
use Rattle.fit_grammar.proofs.Decoding.Headers.{same_header}
use Rattle.fit_grammar.proofs.Decoding.Quiet.{item_quiet}

-- a file is a front with all its records
abbrev pub file_front : (b : List ℕ) (v : FileValue) → FileOf b v → Front
file_front b v h = record { frame = v.frame; size = length h.records; header = h.header; records = h.records; items = v.items }

pub file_is_front : (b : List ℕ) (v : FileValue) (h : FileOf b v) → IsFront (file_front b v h)
file_is_front b v h = record { is_header = h.is_header; are_records = h.are_records; inside = omega arith }

-- two fronts of the same bytes have one header, and their records are aligned
pub record SameFronts (f g : Front) (x y : List ℕ) : Type 0 where
  pub frame : f.frame ≡ g.frame
  pub header : f.header ≡ g.header
  pub size : f.size ≡ g.size
  pub records : Aligned [] f.records f.items x g.records g.items y

pub same_fronts : (f g : Front) (x y : List ℕ) → IsFront f → IsFront g → front_bytes f ++ x ≡ front_bytes g ++ y → SameFronts f g x y
same_fronts f g x y p q e =
    let joined : f.header ++ (f.records ++ x) ≡ g.header ++ (g.records ++ y) = sym (append_assoc f.header f.records x)
    ∙ e ∙ append_assoc g.header g.records y in
    let s = same_header f.header f.frame f.size (f.records ++ x) g.header g.frame g.size (g.records ++ y) p.is_header q.is_header joined in
    record {
      frame = s.frame;
      header = s.header;
      size = s.size;
      records = aligned [] f.records f.items x g.records
          g.items y p.are_records q.are_records s.rest;
    }

-- a prefix that is a front and a tail, beside a front of all the bytes
pub beginning_joined : (b : List ℕ) (m : ℕ) (f g : Front) (rest tail : List ℕ) → b ≡ front_bytes f ++ rest
    → take m b ≡ front_bytes g ++ tail → front_bytes f ++ rest ≡ front_bytes g ++ (tail ++ drop m b)
beginning_joined b m f g rest tail e d =
    sym e ∙ sym (take-append-drop m b) ∙ ap (λ (l : List ℕ). l ++ drop m b) d ∙ append_assoc (front_bytes g) tail (drop m b)

-- a fault that a prefix shows after a front: the front that shows it continues this one with more items
pub record ShowsLater (f : Front) (rest : List ℕ) (count : ℕ) (kind : FaultKind) (place : ℕ) (more : List Item) : Type 0 where
  pub front : Front
  pub tail : List ℕ
  pub after : List ℕ
  pub bytes : List ℕ
  pub is_front : IsFront front
  pub frame_is : f.frame ≡ front.frame
  pub header_is : f.header ≡ front.header
  pub size_is : f.size ≡ front.size
  pub items_are : front.items ≡ f.items ++ more
  pub records_are : front.records ≡ f.records ++ bytes
  pub rest_is : rest ≡ bytes ++ (tail ++ after)
  pub goes_on : RecordsAfter f.items bytes more
  pub shown : TailShows kind front tail
  pub there : place ≡ place_after kind front
  pub count_is : count ≡ front_end f + length bytes + length tail

pub later : (kind : FaultKind) (place m : ℕ) (b : List ℕ) (f : Front) (rest : List ℕ) → IsFront f
    → b ≡ front_bytes f ++ rest → ShowsAfter kind place (take m b)
    → (more : List Item) × ShowsLater f rest (length (take m b)) kind place more
later kind place m b f rest p e s =
    let same = same_fronts f s.front rest (s.tail ++ drop m b) p s.is_front (beginning_joined b m f s.front rest s.tail e s.joined) in
    elim same.records [
      | longer more g ↦ (
        more,
        record {
          front = s.front;
          tail = s.tail;
          after = drop m b;
          bytes = g.bytes;
          is_front = s.is_front;
          frame_is = same.frame;
          header_is = same.header;
          size_is = same.size;
          items_are = g.items_are;
          records_are = g.bytes_are;
          rest_is = g.rest_is;
          goes_on = g.goes_on;
          shown = s.shown;
          there = s.there;
          count_is = omega (
            arith,
            ap length s.joined,
            length-append (front_bytes s.front) s.tail,
            length-append
                s.front.header s.front.records,
            ap length g.bytes_are,
            length-append f.records g.bytes,
            ap length same.header,
          );
        },
      )
      | shorter item others g ↦
          let first = g.goes_on.1 in
          let joined : first.own ++ (g.goes_on.0 ++ rest) ≡ s.tail ++ drop m b =
          sym (append_assoc first.own g.goes_on.0 rest) ∙ ap (λ (l : List ℕ). l ++ rest) (sym first.joined) ∙ sym g.rest_is in
          let inside : length s.front.records + length first.own ≤ s.front.size =
          omega (
            arith,
            p.inside,
            same.size,
            ap length g.bytes_are,
            length-append s.front.records g.bytes,
            ap length
                first.joined,
            length-append first.own g.goes_on.0,
          ) in
          absurd (item_quiet kind s.front s.tail (drop m b) item first.own (g.goes_on.0 ++ rest)
          (record { spelled = first.spelled; defined = first.defined; inside = inside }) joined s.shown)
    ]
