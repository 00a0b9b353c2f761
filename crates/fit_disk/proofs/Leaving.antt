-- What a crash leaves of a file at rest, and of a file on which a write or a cut has begun since.
use Rattle.std.proofs.Common.{subst, ◌≡◌, ◌⊎◌, inl, inr, ℕ, ◌+◌, ◌-◌, ◌<◌, ◌≤◌, max, List, ◌++◌, length, take, drop, get_or, refl, ◌∙◌, arith}
use Rattle.std.proofs.lemmas.Bool.{cases_lt}
use Rattle.std.proofs.lemmas.List.{ext_get_or, length-append, length-take, length-drop, get_or-take, get_or-drop, get_or_append_left, get_or-append_right, get_or_past}
use Rattle.fit_disk.specs.Content.{IsBytes, over, Torn, PartlyCut}
use Rattle.fit_disk.specs.Stored.{Stored, Left, at_rest, write_begun, cut_begun}

-- at rest, a crash leaves the content and nothing else
pub rest_left : (file : Stored) (c d : List ℕ) → file ≡ at_rest c → Left file d → d ≡ c
rest_left file c d rests left_file =
    let left : Left (at_rest c) d = subst (λ f. Left f d) rests left_file in
    ext_get_or 0 d c (omega (arith, left.no_shorter, left.no_longer)) (λ i low. left.same i (omega (arith, low, left.no_longer)) tt)

pub left_rest : (c : List ℕ) → IsBytes c → Left (at_rest c) c
left_rest c bytes = record { no_shorter = omega arith; no_longer = omega arith; same = λ i low outside. refl; bytes = bytes }

-- a write on a file at rest leaves a torn content, whatever reads give meanwhile
pub torn_left : (at count : ℕ) (now : List ℕ) (file : Stored) (c d : List ℕ) → file ≡ at_rest c
    → Left (write_begun at count now file) d → Torn at count c d
torn_left at count now file c d rests left_file =
    let left : Left (write_begun at count now (at_rest c)) d = subst (λ f. Left (write_begun at count now f) d) rests left_file in
    record {
      no_shorter = left.no_shorter;
      no_longer = left.no_longer;
      before = λ i low front. left.same i low (inl front, tt);
      after = λ i low after. left.same i low (inr after, tt);
    }

-- a cut of a file at rest leaves a partly cut content
pub cut_left : (len : ℕ) (now : List ℕ) (file : Stored) (c d : List ℕ) → file ≡ at_rest c → len ≤ length c
    → Left (cut_begun len now file) d → PartlyCut len c d
cut_left len now file c d rests within left_file =
    let left : Left (cut_begun len now (at_rest c)) d = subst (λ f. Left (cut_begun len now f) d) rests left_file in
    record {
      no_shorter = omega (arith, left.no_shorter);
      no_longer = left.no_longer;
      before = λ i low. left.same i (omega arith) tt;
    }

pub length-over : (at : ℕ) (bytes old : List ℕ) → at ≤ length old → length (over at bytes old) ≡ max (length old) (at + length bytes)
length-over at bytes old within =
    omega (arith, length-append (take at old) (bytes ++ drop (at + length bytes) old), length-append bytes (drop (at + length bytes) old), length-take at old, length-drop (at + length bytes) old)

-- what a whole write leaves before its range, in it and after it
pub over_before : (at : ℕ) (bytes old : List ℕ) (i : ℕ) → at ≤ length old → i < at → get_or (over at bytes old) i 0 ≡ get_or old i 0
over_before at bytes old i within front =
    let low : i < length (take at old) = omega (arith, length-take at old) in
    get_or_append_left (take at old) (bytes ++ drop (at + length bytes) old) 0 i low ∙ get_or-take at old i 0 front

pub over_inside : (at : ℕ) (bytes old : List ℕ) (i : ℕ) → at ≤ length old → i < length bytes
    → get_or (over at bytes old) (at + i) 0 ≡ get_or bytes i 0
over_inside at bytes old i within low =
    let size : length (take at old) ≡ at = omega (arith, length-take at old) in
    let here : at + i - at ≡ i = omega arith in
    get_or-append_right (take at old) (bytes ++ drop (at + length bytes) old) at (at + i) 0 size (omega arith) ∙ rw here (get_or_append_left bytes (drop (at + length bytes) old) 0 i low)

pub over_after : (at : ℕ) (bytes old : List ℕ) (i : ℕ) → at ≤ length old → at + length bytes ≤ i
    → get_or (over at bytes old) i 0 ≡ get_or old i 0
over_after at bytes old i within after =
    let size : length (take at old) ≡ at = omega (arith, length-take at old) in
    let place : at + length bytes + (i - at - length bytes) ≡ i = omega arith in
    get_or-append_right (take at old) (bytes ++ drop (at + length bytes) old) at i 0 size (omega arith)
    ∙ get_or-append_right bytes (drop (at + length bytes) old) (length bytes) (i - at) 0 refl (omega arith)
    ∙ get_or-drop (at + length bytes) old (i - at - length bytes) 0
    ∙ rw place refl

-- a whole write is a torn one: what is true of every torn write is true of it
pub over_torn : (at : ℕ) (bytes old : List ℕ) → at ≤ length old → Torn at (length bytes) old (over at bytes old)
over_torn at bytes old within = record {
  no_shorter = omega (arith, length-over at bytes old within);
  no_longer = omega (arith, length-over at bytes old within);
  before = λ i low front. over_before at bytes old i within front;
  after = λ i low after. over_after at bytes old i within after;
}

-- a whole cut is a partial one
pub take_cut : (len : ℕ) (old : List ℕ) → len ≤ length old → PartlyCut len old (take len old)
take_cut len old within = record {
  no_shorter = omega (arith, length-take len old);
  no_longer = omega (arith, length-take len old);
  before = λ i low. get_or-take len old i 0 low;
}

-- a write of bytes over bytes gives bytes
pub over_bytes : (at : ℕ) (bytes old : List ℕ) → at ≤ length old → IsBytes bytes → IsBytes old → IsBytes (over at bytes old)
over_bytes at bytes old within new_bytes old_bytes i = by_place (cases_lt i at) (cases_lt i (at + length bytes))
  where
    by_place : (i < at) ⊎ (at ≤ i) → (i < at + length bytes) ⊎ (at + length bytes ≤ i) → get_or (over at bytes old) i 0 < 256
    by_place (inl front) other = rw (over_before at bytes old i within front) (old_bytes i)
    by_place (inr from) (inr after) = rw (over_after at bytes old i within after) (old_bytes i)
    by_place (inr from) (inl inside) =
        let place : at + (i - at) ≡ i = omega arith in
        let is : get_or (over at bytes old) (at + (i - at)) 0 ≡ get_or bytes (i - at) 0 = over_inside at bytes old (i - at) within (omega arith) in
        let here : get_or (over at bytes old) i 0 ≡ get_or bytes (i - at) 0 = rw place at is in
        rw here (new_bytes (i - at))

pub take_bytes : (len : ℕ) (old : List ℕ) → IsBytes old → IsBytes (take len old)
take_bytes len old bytes i = by_place (cases_lt i len)
  where
    by_place : (i < len) ⊎ (len ≤ i) → get_or (take len old) i 0 < 256
    by_place (inl low) = rw (get_or-take len old i 0 low) (bytes i)
    by_place (inr past) = rw (get_or_past (take len old) i 0 (omega (arith, length-take len old))) (omega arith)

-- what could be left before a write began may be left after it
pub left_more : (at count : ℕ) (now : List ℕ) (file : Stored) (d : List ℕ) → Left file d → Left (write_begun at count now file) d
left_more at count now file d left = record {
  no_shorter = left.no_shorter;
  no_longer = omega (arith, left.no_longer);
  same = λ i low outside. left.same i low outside.1;
  bytes = left.bytes;
}

-- the same for a cut
pub left_less : (len : ℕ) (now : List ℕ) (file : Stored) (d : List ℕ) → Left file d → Left (cut_begun len now file) d
left_less len now file d left = record {
  no_shorter = omega (arith, left.no_shorter);
  no_longer = left.no_longer;
  same = λ i low outside. left.same i (omega arith) outside;
  bytes = left.bytes;
}

pub drop_bytes : (count : ℕ) (old : List ℕ) → IsBytes old → IsBytes (drop count old)
drop_bytes count old bytes i = rw (get_or-drop count old i 0) (bytes (count + i))
