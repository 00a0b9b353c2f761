-- What a power cut makes of a file for given choice bytes is one of the contents that it may leave: the
-- length is in range and the kept bytes stay.
use Rattle.std.proofs.Common.{◌≡◌, ◌⊎◌, inl, inr, ⊎_elim, ℕ, ◌+◌, ◌<◌, ◌≤◌, Bool, true, false, if◌then◌else◌, List, [], ◌∷◌, length, get_or, refl, ◌∙◌, arith}
use Rattle.std.proofs.lemmas.Bool.{and_parts, and_from, or_cases, or_left, or_right, ltb-true, leb-true, lt-ltb, le-leb, cases_lt}
use Rattle.std.proofs.lemmas.List.{get_or_past}
use Rattle.std.proofs.lemmas.List.FromFn.{length-map-range_with_len, get_or-map-range_with_len}
use Rattle.fit_disk.specs.Content.{IsBytes}
use Rattle.fit_disk.specs.Stored.{Stored, IsOutside, Left}
use Rattle.fit_disk.specs.Cycle.{is_outside, is_kept, free_below, length_chosen, byte_by, left_by}

-- the Boolean test of a place implies the relation
pub outside_is : (place : ℕ) (ranges : List (ℕ × ℕ)) → is_outside place ranges ≡ true → IsOutside place ranges
outside_is place [] outside = tt
outside_is place (range ∷ ranges) outside =
    let parts = and_parts _ _ outside in
    (⊎_elim (λ front. inl (ltb-true place range.0 front)) (λ after. inr (leb-true (range.0 + range.1) place after)) (or_cases _ _ parts.0), outside_is place ranges parts.1)

pub outside_from : (place : ℕ) (ranges : List (ℕ × ℕ)) → IsOutside place ranges → is_outside place ranges ≡ true
outside_from place [] outside = refl
outside_from place (range ∷ ranges) outside =
    and_from _ _ (⊎_elim (λ front. or_left _ _ (lt-ltb place range.0 front)) (λ after. or_right _ _ (le-leb (range.0 + range.1) place after)) outside.0) (outside_from place ranges outside.1)

pub kept_from : (least : ℕ) (written : List (ℕ × ℕ)) (place : ℕ) → place < least → IsOutside place written
    → is_kept least written place ≡ true
kept_from least written place low outside = and_from _ _ (lt-ltb place least low) (outside_from place written outside)

-- a kept byte is the one that was synced
pub kept_same : (file : Stored) (place : ℕ) → Left file file.seen → is_kept file.least file.written place ≡ true
    → get_or file.seen place 0 ≡ get_or file.synced place 0
kept_same file place left kept =
    let parts = and_parts _ _ kept in
    left.same place (ltb-true place file.least parts.0) (outside_is place file.written parts.1)

pub length_in_range : (least greatest : ℕ) (choices : List ℕ) → least ≤ greatest
    → (least ≤ length_chosen least greatest choices) × (length_chosen least greatest choices ≤ greatest)
length_in_range least greatest choices order = (omega arith, omega arith)

module _ (file : Stored) (choices : List ℕ) where
  len : ℕ
  len = length_chosen file.least file.greatest choices

  pub length-left_by : length (left_by file choices) ≡ length_chosen file.least file.greatest choices
  length-left_by = length-map-range_with_len (byte_by file.least file.written file.synced choices) 0 (length_chosen file.least file.greatest choices)

  pub get_or-left_by : (place : ℕ) → place < length_chosen file.least file.greatest choices
      → get_or (left_by file choices) place 0 ≡ byte_by file.least file.written file.synced choices place
  get_or-left_by place low = get_or-map-range_with_len (byte_by file.least file.written file.synced choices) 0 (length_chosen file.least file.greatest choices) place place 0 low (omega arith)

  byte_below : (place : ℕ) → Left file file.seen → IsBytes choices → byte_by file.least file.written file.synced choices place < 256
  byte_below place left bytes = by_test (is_kept file.least file.written place) refl
    where
      by_test : (kept : Bool) → is_kept file.least file.written place ≡ kept
          → (if kept then get_or file.synced place 0 else get_or choices (4 + free_below file.least file.written place) 0) < 256
      by_test true is = rw (← kept_same file place left is) (left.bytes place)
      by_test false is = bytes (4 + free_below file.least file.written place)

  left_bytes : Left file file.seen → IsBytes choices → IsBytes (left_by file choices)
  left_bytes left bytes place = by_place (cases_lt place (length_chosen file.least file.greatest choices))
    where
      by_place : (place < length_chosen file.least file.greatest choices) ⊎ (length_chosen file.least file.greatest choices ≤ place) → get_or (left_by file choices) place 0 < 256
      by_place (inl low) = rw (get_or-left_by place low) (byte_below place left bytes)
      by_place (inr past) = rw (get_or_past (left_by file choices) place 0 (omega (arith, length-left_by))) (omega arith)

  -- the content for these choice bytes is one that a crash may leave
  pub cycle_leaves : Left file file.seen → IsBytes choices → Left file (left_by file choices)
  cycle_leaves left bytes =
      let order : file.least ≤ file.greatest = omega (arith, left.no_shorter, left.no_longer) in
      let range = length_in_range file.least file.greatest choices order in
      record {
        no_shorter = omega (arith, length-left_by, range.0);
        no_longer = omega (arith, length-left_by, range.1);
        same = λ place low outside.
            get_or-left_by place (omega (arith, range.0))
            ∙ rw (kept_from file.least file.written place low outside) refl;
        bytes = left_bytes left bytes;
      }
