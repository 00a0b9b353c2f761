-- The place of a reading in the bytes so far.
use Rattle.std.proofs.Common.{◌≡◌, ℕ, ◌+◌, ◌-◌, ◌<◌, ◌≤◌, ◌^◌, min, List, ◌++◌, length, take, sym, ap, subst, ◌∙◌, arith, inl, inr}
use Rattle.std.proofs.lemmas.Bool.{cases_lt}
use Rattle.std.proofs.lemmas.List.{length-append, length-drop, take-append-le}
use Rattle.fit_base.specs.Checksum.{crc_from}
use Rattle.fit_grammar.specs.declared.file.state.Reading.{Reading}
use Rattle.fit_grammar.specs.Format.Records.{data_size}
use Rattle.fit_grammar.specs.Private.Feeding.{StandsBefore, ReadsOn, AreNoted}
use Rattle.fit_grammar.proofs.Decoding.Reached.{reached_fits}
use Rattle.fit_grammar.proofs.Pieces.Noted.{reached_end}
use Rattle.fit_grammar.proofs.Decoding.Longer.{reached_within, reached_longer, window_longer, checked_longer}

-- one reading is at the same place as another
pub record StaysAt (old new : Reading) : Type 0 where
  pub file : new.file ≡ old.file
  pub places : new.places ≡ old.places
  pub at : new.at ≡ old.at
  pub end : new.end ≡ old.end
  pub checksum : new.checksum ≡ old.checksum

pub stands_same : (b w : List ℕ) (old new : Reading) → StandsBefore b old w → StaysAt old new → StandsBefore b new w
stands_same b w old new s same = record {
  reached = rw (same.file, same.at, same.end) s.reached;
  window_is = rw same.at s.window_is;
  checked = rw (same.checksum, same.end) s.checked;
  noted = rw (same.file, same.places, same.at) s.noted;
}

-- the window reaches to the end of the bytes
pub stands_length : (b w : List ℕ) (r : Reading) → StandsBefore b r w → length b ≡ r.at + length w
stands_length b w r s =
    omega (arith, (reached_within b r.file r.at r.end s.reached).0, length-drop r.at b, ap length s.window_is)

pub stands_within : (b w : List ℕ) (r : Reading) → StandsBefore b r w → r.at ≤ r.end
stands_within b w r s = (reached_within b r.file r.at r.end s.reached).1

-- what is left of the data fits after what was read
pub stands_fits : (b w : List ℕ) (r : Reading) → StandsBefore b r w → data_size r.file.items + (r.end - r.at) < 2 ^ 32
stands_fits b w r s = reached_fits b r.file r.at r.end s.reached

-- the number of bytes before the end that have not come yet
pub left_is : (fed : List ℕ) (r : Reading) (had : ℕ) → ReadsOn fed r → had ≡ length r.carry.items
    → r.end - (r.at + had) ≡ r.end - length fed
left_is fed r had reads e =
    let carry = r.carry.items in
    let long = stands_length fed (carry ++ r.closing.items) r reads.stands in
    elim (cases_lt r.at r.end) [
      | inl lt ↦ omega (arith, long, length-append carry r.closing.items, ap length (reads.within lt).0)
      | inr le ↦ omega (arith, long)
    ]

-- with more bytes after them, the window has those too
pub stands_longer : (b w x : List ℕ) (old new : Reading) (left : ℕ) → StandsBefore b old w → left ≡ old.end - length b
    → new.file ≡ old.file → new.places ≡ old.places → new.at ≡ old.at → new.end ≡ old.end
    → new.checksum ≡ crc_from old.checksum (take (min left (length x)) x) → StandsBefore (b ++ x) new (w ++ x)
stands_longer b w x old new left s e file places at end checksum = record {
  reached = rw (file, at, end) (reached_longer b x old.file old.at old.end s.reached);
  window_is = rw at (window_longer b x old.file old.at old.end s.reached ∙ ap (λ (l : List ℕ). l ++ x) s.window_is);
  checked = rw end (checksum ∙ checked_longer b x old.end left old.checksum s.checked e);
  noted = rw (file, places, at) (subst (λ (l : List ℕ). AreNoted l (old.file.frame.header_size + data_size old.file.items) old.places)
      (sym (take-append-le old.at b x (reached_within b old.file old.at old.end s.reached).0)) s.noted);
}

-- there are no more noted places than bytes that were passed
pub stands_noted : (b w : List ℕ) (r : Reading) → StandsBefore b r w → length r.places ≤ r.at
stands_noted b w r s =
    let n = reached_end b r.file r.places r.at r.end s.reached s.noted in
    omega (arith, n)
