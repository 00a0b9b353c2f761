-- Bytes with more after them: what a prefix shows, the longer bytes show too, and what was read of it was read of them.
use Rattle.std.proofs.Common.{◌≡◌, ℕ, ◌+◌, ◌-◌, ◌≤◌, min, List, ◌++◌, length, take, drop, sym, ap, subst, ◌∙◌, append_assoc, arith, inl, inr}
use Rattle.std.proofs.lemmas.Bool.{cases_lt}
use Rattle.std.proofs.lemmas.List.{length-append, take-append-le, drop-append-le, take_all, take_min}
use Rattle.std.proofs.Math.Seq.{take-append-add}
use Rattle.fit_base.specs.Checksum.{crc, crc_from}
use Rattle.fit_base.proofs.Register.{crc_from-append, crc_from-nil}
use Rattle.fit_grammar.specs.declared.file.fault.FaultKind.{FaultKind}
use Rattle.fit_grammar.specs.declared.file.fault.FaultKind.TheVariants.{Truncated}
use Rattle.fit_grammar.specs.declared.file.fault.FileFault.{FileFault}
use Rattle.fit_grammar.specs.Format.File.{FileValue}
use Rattle.fit_grammar.specs.Format.Refusal.{front_bytes, Shows, IsShortestShown, IsCutShort, Refusal, IsFaultOf}
use Rattle.fit_grammar.specs.Calls.Pieces.{IsShownBy}
use Rattle.fit_grammar.specs.Private.Decoding.{Reached}
use Rattle.fit_grammar.proofs.Decoding.WantOfMemory.{front_before_refusal}

-- ---- what is shown

-- the shortest prefix is also a prefix of the longer bytes
beginning_shown : (b x : List ℕ) (kind : FaultKind) (place : ℕ) → IsShortestShown b kind place → IsShortestShown (b ++ x) kind place
beginning_shown b x kind place s =
    let within = s.within in
    record {
      count = s.count;
      within = omega (arith, length-append b x);
      shown = subst (λ (l : List ℕ). Shows kind place l) (sym (take-append-le s.count b x within)) s.shown;
      shortest = λ n other at lt shown. s.shortest n other at lt
          (subst (λ (l : List ℕ). Shows other at l) (take-append-le n b x (omega arith)) shown);
    }

pub shown_longer : (b x : List ℕ) (fault : FileFault) → IsShownBy b fault → IsShownBy (b ++ x) fault
shown_longer b x fault (inl s) = inl (s.0, beginning_shown b x fault.kind fault.place s.1)
shown_longer b x fault (inr m) =
    let item = m.1 in
    let joined : b ++ x ≡ front_bytes item.front ++ (item.rest ++ x) =
    ap (λ (l : List ℕ). l ++ x) item.joined ∙ append_assoc (front_bytes item.front) item.rest x in
    inr (
      m.0,
      record {
        front = item.front;
        rest = item.rest ++ x;
        is_front = item.is_front;
        more = item.more;
        come = omega (arith, item.come, length-append item.rest x);
        joined = joined;
        there = item.there;
      },
      λ kind place r. omega (
        arith,
        item.there,
        front_before_refusal (b ++ x) item.front (item.rest ++ x) item.is_front joined kind place r,
      ),
    )

-- no prefix shows that the input ends too soon
truncated_shown : (place : ℕ) (bytes : List ℕ) → Shows Truncated place bytes → ⊥
truncated_shown place bytes (inl h) = h
truncated_shown place bytes (inr s) = s.shown

pub cut_of : (b : List ℕ) (place : ℕ) → Refusal b Truncated place → IsCutShort b Truncated place
cut_of b place (inl s) = absurd (truncated_shown place (take s.count b) s.shown)
cut_of b place (inr c) = c

-- every other fault is shown by a prefix
pub shown_of : (b : List ℕ) (fault : FileFault) → IsFaultOf b fault → (fault.kind ≡ Truncated → ⊥) → IsShownBy b fault
shown_of b fault (inl (other, inl s)) whole = inl (other, s)
shown_of b fault (inl (other, inr c)) whole = absurd (whole c.truncated)
shown_of b fault (inr m) whole = inr m

-- ---- what was read

pub reached_longer : (b x : List ℕ) (v : FileValue) (at end : ℕ) → Reached b v at end → Reached (b ++ x) v at end
reached_longer b x v at end r = record {
  front = r.front;
  rest = r.rest ++ x;
  is_front = r.is_front;
  frame_is = r.frame_is;
  items_are = r.items_are;
  joined = ap (λ (l : List ℕ). l ++ x) r.joined ∙ append_assoc (front_bytes r.front) r.rest x;
  at_is = r.at_is;
  end_is = r.end_is;
  fits = r.fits;
}

-- the front ends within the bytes, and within the data
pub reached_within : (b : List ℕ) (v : FileValue) (at end : ℕ) → Reached b v at end → (at ≤ length b) × (at ≤ end)
reached_within b v at end r =
    let f = r.front in (
      omega (arith, ap length r.joined, length-append (front_bytes f) r.rest, length-append f.header f.records, r.at_is),
      omega (arith, r.at_is, r.end_is, r.is_front.inside),
    )

pub window_longer : (b x : List ℕ) (v : FileValue) (at end : ℕ) → Reached b v at end → drop at (b ++ x) ≡ drop at b ++ x
window_longer b x v at end r = drop-append-le at b x ((reached_within b v at end r).0)

-- the checksum continues over those of the bytes that are before the end
pub checked_longer : (b x : List ℕ) (end left checksum : ℕ) → checksum ≡ crc (take end b) → left ≡ end - length b
    → crc_from checksum (take (min left (length x)) x) ≡ crc (take end (b ++ x))
checked_longer b x end left checksum c e =
    elim (cases_lt (length b) end) [
      | inl less ↦
          let goes : end ≡ length b + left = omega arith in
          let all : take end b ≡ b = take_all end b (omega arith) in
          ap (λ (n : ℕ). crc_from n (take (min left (length x)) x)) (c ∙ ap crc all)
          ∙ ap (λ (l : List ℕ). crc_from (crc b) l) (take_min left x)
          ∙ sym (crc_from-append 0 b (take left x)) ∙ ap crc (sym (take-append-add b x left))
          ∙ ap (λ (n : ℕ). crc (take n (b ++ x))) (sym goes)
      | inr more ↦
          let none : left ≡ 0 = omega arith in
          ap (λ (l : List ℕ). crc_from checksum l) (take_min left x ∙ ap (λ (n : ℕ). take n x) none)
          ∙ crc_from-nil checksum ∙ c ∙ ap crc (sym (take-append-le end b x more))
    ]
