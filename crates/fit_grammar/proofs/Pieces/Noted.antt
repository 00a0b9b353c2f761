-- Where the items that were read were: with one more item, and in all the bytes.
use Rattle.std.proofs.Common.{◌≡◌, ℕ, ◌+◌, ◌-◌, ◌<◌, ◌≤◌, List, [], ◌∷◌, ◌++◌, length, take, drop, refl, sym, ap, subst, ◌∙◌, arith, append_assoc, inl, inr, ◌⊎◌}
use Rattle.std.specs.Prelude.{nat_lt, if◌then◌else◌}
use Rattle.std.proofs.lemmas.Bool.Decides.{eqb_tells, nat_tests}
use Rattle.std.proofs.lemmas.List.{length-append, length-take-le, append-nil, take_all, nil_from_length}
use Rattle.std.proofs.lemmas.List.Sums.{sum_by-append}
use Rattle.std.proofs.Math.Seq.{take-add, take-append-add}
use Rattle.fit_grammar.specs.declared.file.frame.Frame.{Frame}
use Rattle.fit_grammar.specs.Format.Item.{Item, Spells, item_size}
use Rattle.fit_grammar.specs.Format.Records.{RecordsAfter, IsDefined, in_force, data_size}
use Rattle.fit_grammar.specs.declared.file.header.Header.{Header}
use Rattle.fit_grammar.specs.Format.File.{FileValue, IsHeader}
use Rattle.fit_grammar.specs.Format.Refusal.{Front, IsFront, front_bytes, front_end}
use Rattle.fit_grammar.specs.Calls.Places.{ArePlaces, place_read, written_end}
use Rattle.fit_grammar.specs.Private.Decoding.{Reached, BeginsWith}
use Rattle.fit_grammar.specs.Private.Feeding.{AreNoted, TakesNext, with_place}
use Rattle.fit_grammar.proofs.OneItem.Spelling.{spelling_one}
use Rattle.fit_grammar.proofs.Decoding.Alignment.{Aligned, longer, shorter}
use Rattle.fit_grammar.proofs.Decoding.Fronts.{same_fronts}
use Rattle.fit_grammar.proofs.Decoding.Headers.{same_header}
use Rattle.fit_grammar.proofs.Decoding.Reached.{some_bytes, spelled_size, spelled_most}
use Rattle.fit_grammar.proofs.Decoding.Shown.{front_taken}

-- a row of no bytes has no items
none_left : (before : List Item) (items : List Item) → RecordsAfter before [] items → items ≡ []
none_left before [] r = refl
none_left before (item ∷ items) r =
    absurd (omega (
      arith,
      ap length r.1.joined,
      length-append r.1.own r.0,
      spelled_size item r.1.own r.1.spelled,
      some_bytes item,
    ))

-- after the header no place is noted
pub none_noted : (b : List ℕ) (h : Header) → BeginsWith b h → length b ≡ h.frame.header_size → AreNoted b (h.frame.header_size + 0) []
none_noted b h p whole = record {
  places = λ g rest q e.
      let all : take h.frame.header_size b ≡ b = take_all h.frame.header_size b (omega arith) in
      let header : IsHeader b h.frame h.data_size = subst (λ (l : List ℕ). IsHeader l h.frame h.data_size) all p.is_header in
      let s = same_header b h.frame h.data_size [] g.header g.frame g.size (g.records ++ rest) header q.is_header
      (append-nil b ∙ e ∙ append_assoc g.header g.records rest) in
      let empty : g.records ≡ [] = nil_from_length g.records (omega (arith, ap length s.rest, length-append g.records rest)) in
      let none = none_left [] g.items (subst (λ (l : List ℕ). RecordsAfter [] l g.items) empty q.are_records) in
      omega (arith, q.is_header.whole, ap length empty, ap data_size none);
  all = λ place le. omega arith;
}

-- ---- a place is noted after the others

-- the number of places before this one, with one more place
read_with : (places : List ℕ) (at place : ℕ)
    → place_read (places ++ at ∷ []) place ≡ place_read places place + (if nat_lt at place then 1 else 0)
read_with places at place =
    omega (arith, sum_by-append (λ n. if nat_lt n place then 1 else 0) places (at ∷ []))

before_it : (places : List ℕ) (at place : ℕ) → place ≤ at → place_read (places ++ at ∷ []) place ≡ place_read places place
before_it places at place le = grind (arith, nat_tests, read_with places at place)

past_it : (places : List ℕ) (at place : ℕ) → at < place → place_read (places ++ at ∷ []) place ≡ place_read places place + 1
past_it places at place lt = grind (arith, nat_tests, read_with places at place)

-- ---- one more item

-- the other front has the item too, and no more items
record HasIt (f g : Front) (own : List ℕ) (item : Item) : Type 0 where
  end : front_end g ≡ front_end f + length own
  written : written_end g ≡ written_end f + item_size item

-- or it ends at or before the one without the item
record HasNot (f g : Front) : Type 0 where
  following : List ℕ
  joined : front_bytes f ≡ front_bytes g ++ following
  written : written_end g ≤ written_end f

written_with : (f g : Front) (items : List Item) → f.frame ≡ g.frame → g.items ≡ f.items ++ items
    → written_end g ≡ written_end f + data_size items
written_with f g items frame are =
    omega (arith, ap (λ (x : Frame). x.header_size) frame, ap data_size are, sum_by-append item_size f.items items)

either : (f g : Front) (own rest : List ℕ) (item : Item) → Spells item own → IsDefined f.items item → f.frame ≡ g.frame → f.header ≡ g.header
    → Aligned [] f.records f.items own g.records g.items rest → HasIt f g own item ⊎ HasNot f g
either f g own rest item p d frame header (longer [] k) =
    inr (record {
      following = [];
      joined = sym (append-nil (front_bytes g) ∙ ap (λ (h : List ℕ). h ++ g.records) (sym header)
          ∙ ap (λ (l : List ℕ). f.header ++ l) (k.bytes_are ∙ ap (λ (l : List ℕ). f.records ++ l) k.goes_on ∙ append-nil f.records));
      written = omega (arith, written_with f g [] frame k.items_are);
    })
either f g own rest item p d frame header (longer (i ∷ more) k) =
    let first = k.goes_on.1 in
    let joined : own ++ [] ≡ first.own ++ (k.goes_on.0 ++ rest) =
    append-nil own ∙ k.rest_is ∙ ap (λ (l : List ℕ). l ++ rest) first.joined ∙ append_assoc first.own k.goes_on.0 rest in
    let one = spelling_one (in_force f.items) item i own [] first.own (k.goes_on.0 ++ rest) p first.spelled d first.defined joined in
    let empty : k.goes_on.0 ≡ [] =
    nil_from_length k.goes_on.0 (omega (arith, ap length one.2, length-append k.goes_on.0 rest)) in
    let none = none_left (f.items ++ i ∷ []) more (subst (λ (l : List ℕ). RecordsAfter (f.items ++ i ∷ []) l more) empty k.goes_on.2) in
    inl (record {
      end = omega (
        arith,
        ap length header,
        ap length k.bytes_are,
        length-append f.records k.bytes,
        ap length first.joined,
        length-append first.own k.goes_on.0,
        ap length one.0,
        ap length empty,
      );
      written = omega (
        arith,
        written_with f g (i ∷ more) frame k.items_are,
        ap (λ (is : List Item). data_size (i ∷ is)) none,
        ap (λ (j : Item). data_size (j ∷ [])) one.1,
        sum_by-append item_size (item ∷ []) [],
      );
    })
either f g own rest item p d frame header (shorter i others k) =
    inr (record {
      following = k.bytes;
      joined = ap (λ (h : List ℕ). h ++ f.records) header ∙ ap (λ (l : List ℕ). g.header ++ l) k.bytes_are
          ∙ sym (append_assoc g.header g.records k.bytes);
      written = omega (arith, written_with g f (i ∷ others) (sym frame) k.items_are);
    })

-- where the front ends
end_noted : (f : Front) (places : List ℕ) → IsFront f → AreNoted (front_bytes f) (written_end f) places
    → front_end f ≡ written_end f + length places
end_noted f places p n =
    sym (n.places f [] p (sym (append-nil (front_bytes f)))) ∙ n.all (written_end f) (omega arith)

-- an item that is written in as many bytes as it had
same_long : (f : Front) (own : List ℕ) (item : Item) (places : List ℕ) → IsFront f → Spells item own → IsDefined f.items item
    → AreNoted (front_bytes f) (written_end f) places → length own ≡ item_size item
    → AreNoted (front_bytes f ++ own) (written_end f + item_size item) places
same_long f own item places p s d n same = record {
  places = λ g rest q e.
      let w = same_fronts f g own rest p q e in
      elim (either f g own rest item s d w.frame w.header w.records) [
        | inl it ↦ omega (
          arith,
          ap (λ (k : ℕ). place_read places k) it.written,
          n.all (written_end f + item_size item) (omega arith),
          end_noted f places p n,
          it.end,
          same,
        )
        | inr not ↦ n.places g not.following q not.joined
      ];
  all = λ place le. n.all place (omega (arith, le));
}

-- and one that had one more byte
a_byte_longer : (f : Front) (own : List ℕ) (item : Item) (places : List ℕ) → IsFront f → Spells item own → IsDefined f.items item
    → AreNoted (front_bytes f) (written_end f) places → length own ≡ item_size item + 1
    → AreNoted (front_bytes f ++ own) (written_end f + item_size item) (places ++ written_end f ∷ [])
a_byte_longer f own item places p s d n more =
    let at = written_end f in
    let new = places ++ at ∷ [] in
    let some = some_bytes item in
    record {
      places = λ g rest q e.
          let w = same_fronts f g own rest p q e in
          elim (either f g own rest item s d w.frame w.header w.records) [
            | inl it ↦ omega (
              arith,
              ap (λ (k : ℕ). place_read new k) it.written,
              past_it places at (at + item_size item) (omega arith),
              n.all (at + item_size item) (omega arith),
              end_noted f places p n,
              it.end,
              more,
            )
            | inr not ↦ before_it places at (written_end g) not.written ∙ n.places g not.following q not.joined
          ];
      all = λ place le. omega (
        arith,
        past_it places at place (omega (arith, le)),
        n.all place (omega (arith, le)),
        length-append places (at ∷ []),
      );
    }

noted_more : (f : Front) (own : List ℕ) (item : Item) (places : List ℕ) → IsFront f → Spells item own → IsDefined f.items item
    → AreNoted (front_bytes f) (written_end f) places
    → AreNoted (front_bytes f ++ own) (written_end f + item_size item) (with_place places (front_end f) (item_size item) (length own))
noted_more f own item places p s d n =
    elim (eqb_tells (length own) (item_size item)) [
      | inl same ↦ rw same.0 (same_long f own item places p s d n same.1)
      | inr other ↦
          let at : front_end f - length places ≡ written_end f = omega (arith, end_noted f places p n) in
          rw (other.0, at) (a_byte_longer f own item places p s d n
          (omega (arith, spelled_size item own s, spelled_most item own s, other.1)))
    ]

-- ---- in the reading

-- the bytes of the front and where it is written, as the reading has them
pub reached_bytes : (b : List ℕ) (v : FileValue) (at end : ℕ) → (r : Reached b v at end) → take at b ≡ front_bytes r.front
reached_bytes b v at end r = ap (λ (n : ℕ). take n b) r.at_is ∙ front_taken b r.front r.rest r.joined

pub reached_written : (b : List ℕ) (v : FileValue) (at end : ℕ) → (r : Reached b v at end)
    → v.frame.header_size + data_size v.items ≡ written_end r.front
reached_written b v at end r =
    omega (arith, ap (λ (x : Frame). x.header_size) r.frame_is, ap data_size r.items_are)

-- its place in the bytes
pub reached_end : (b : List ℕ) (v : FileValue) (places : List ℕ) (at end : ℕ) → Reached b v at end
    → AreNoted (take at b) (v.frame.header_size + data_size v.items) places → at ≡ v.frame.header_size + data_size v.items + length places
reached_end b v places at end r n =
    let here : AreNoted (front_bytes r.front) (written_end r.front) places =
    rw (reached_bytes b v at end r, reached_written b v at end r) at n in
    omega (arith, end_noted r.front places r.is_front here, r.at_is, reached_written b v at end r)

pub noted_next : (b : List ℕ) (v w : FileValue) (places after : List ℕ) (at end used : ℕ) → Reached b v at end
    → TakesNext v w places after (drop at b) at (end - at) used
    → AreNoted (take at b) (v.frame.header_size + data_size v.items) places
    → AreNoted (take (at + used) b) (w.frame.header_size + data_size w.items) after
noted_next b v w places after at end used r t n =
    let f = r.front in
    let item = t.taken.item in
    let own = take used (drop at b) in
    let long : length own ≡ used = length-take-le used (drop at b) t.taken.at_front.within in
    let here : AreNoted (front_bytes f) (written_end f) places =
    rw (reached_bytes b v at end r, reached_written b v at end r) at n in
    let defined : IsDefined f.items item =
    subst (λ (is : List Item). IsDefined is item) (sym r.items_are) t.taken.at_front.defined in
    let bytes : take (at + used) b ≡ front_bytes f ++ own =
    take-add at used b ∙ ap (λ (l : List ℕ). l ++ own) (reached_bytes b v at end r) in
    let written : w.frame.header_size + data_size w.items ≡ written_end f + item_size item =
    omega (
      arith,
      ap (λ (x : FileValue). x.frame.header_size) t.taken.added,
      ap (λ (x : FileValue). data_size x.items) t.taken.added,
      sum_by-append item_size v.items (item ∷ []),
      reached_written b v at end r,
    ) in
    let is : after ≡ with_place places (front_end f) (item_size item) (length own) =
    t.noted_is ∙ ap (λ (n : ℕ). with_place places n (item_size item) used) r.at_is
    ∙ ap (λ (n : ℕ). with_place places (front_end f) (item_size item) n) (sym long) in
    rw (bytes, written, is) (noted_more f own item places r.is_front t.taken.at_front.spelled defined here)

-- after the last item all places are noted
pub all_noted : (b : List ℕ) (v : FileValue) (places : List ℕ) (at end written : ℕ) → Reached b v at end → end ≤ at
    → AreNoted (take at b) written places → ArePlaces b places
all_noted b v places at end written r le n g rest q e =
    let f = r.front in
    let w = same_fronts f g r.rest rest r.is_front q (sym r.joined ∙ e) in
    let left = at - front_end g in
    let reaches : length (front_bytes g) + left ≡ at =
    omega (arith, length-append g.header g.records, q.inside, w.size, ap length w.header, r.end_is, le) in
    n.places g (take left rest) q
    (ap (λ (k : ℕ). take k b) (sym reaches) ∙ ap (λ (l : List ℕ). take (length (front_bytes g) + left) l) e
    ∙ take-append-add (front_bytes g) rest left)
