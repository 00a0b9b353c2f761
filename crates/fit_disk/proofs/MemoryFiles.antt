-- A half still stands for its file after a write and after a power cut.
use Rattle.std.proofs.Common.{◌≡◌, ℕ, zero, suc, ◌+◌, ◌<◌, ◌≤◌, max, Bool, true, false, ◌&&◌, if◌then◌else◌, List, [], ◌∷◌, length, get_or, refl, sym, ◌∙◌, ap}
use Rattle.std.proofs.lemmas.Bool.{and_parts, ltb-true}
use Rattle.std.proofs.lemmas.List.FromFn.{fill_by_all}
use Rattle.fit_disk.specs.declared.memory_file.MemoryFile.{MemoryFile}
use Rattle.fit_disk.specs.Content.{IsBytes}
use Rattle.fit_disk.specs.Stored.{Stored, Left, at_rest, write_begun}
use Rattle.fit_disk.specs.Cycle.{is_beside, is_outside, is_kept, free_below, length_chosen, byte_by, left_by, taken_by}
use Rattle.fit_disk.specs.MemoryFile.{IsHalf}
use Rattle.fit_disk.proofs.Leaving.{left_rest}
use Rattle.fit_disk.proofs.Cycling.{length-left_by, kept_same, cycle_leaves}

pub half_begun : (old new : MemoryFile) (file : Stored) (at count : ℕ) (now : List ℕ) → IsHalf old file → Left (write_begun at count now file) now
    → now ≡ new.seen.items → new.least ≡ old.least → new.greatest ≡ max old.greatest (at + count) → ((place : ℕ) → is_outside place new.written.items ≡ is_outside place ((at, count) ∷ old.written.items))
    → IsHalf new (write_begun at count now file)
half_begun old new file at count now is left seen least greatest written = record {
  seen = seen;
  least = is.least ∙ sym least;
  greatest = ap (λ n. max n (at + count)) is.greatest ∙ sym greatest;
  written = λ place. written place ∙ ap (λ rest. is_beside place (at, count) && rest) (is.written place);
  sound = left;
}

module _ (least : ℕ) (xs ys : List (ℕ × ℕ)) (same : (place : ℕ) → is_outside place xs ≡ is_outside place ys) where
  pub free_same : (n : ℕ) → free_below least xs n ≡ free_below least ys n
  free_same zero = refl
  free_same (suc n) = rw (free_same n, same n) refl

  pub byte_same : (before synced choices : List ℕ) (place : ℕ)
      → (is_kept least ys place ≡ true → get_or before place 0 ≡ get_or synced place 0)
      → byte_by least xs before choices place ≡ byte_by least ys synced choices place
  byte_same before synced choices place kept = rw (same place, free_same place) (by_test (is_kept least ys place) refl)
    where
      by_test : (test : Bool) → is_kept least ys place ≡ test
          → (if test then get_or before place 0 else get_or choices (4 + free_below least ys place) 0) ≡ (if test then get_or synced place 0 else get_or choices (4 + free_below least ys place) 0)
      by_test true is = kept is
      by_test false is = refl

-- the content after the loop over the places, which starts from the file at its chosen length
pub half_cycled : (old new : MemoryFile) (file : Stored) (before choices : List ℕ) → IsHalf old file → IsBytes choices
    → ((place : ℕ) → place < old.least → get_or before place 0 ≡ get_or old.seen.items place 0)
    → length new.seen.items ≡ length_chosen old.least old.greatest choices
    → ((place : ℕ) → place < length_chosen old.least old.greatest choices → get_or new.seen.items place 0 ≡ byte_by old.least old.written.items before choices place)
    → new.least ≡ length_chosen old.least old.greatest choices → new.greatest ≡ length_chosen old.least old.greatest choices → new.written.items ≡ []
    → IsHalf new (at_rest (left_by file choices))
half_cycled old new file before choices is bytes resized size each least greatest written =
    let order : file.least ≤ length file.seen = is.sound.no_shorter in
    let long : length new.seen.items ≡ length_chosen file.least file.greatest choices = rw (is.least, is.greatest) size in
    let same : (place : ℕ) → place < length_chosen file.least file.greatest choices → get_or new.seen.items place 0 ≡ byte_by file.least file.written file.synced choices place =
    λ place low.
    each place (rw (← is.least, ← is.greatest) low)
    ∙ byte_same old.least old.written.items file.written is.written before file.synced choices place (λ kept. kept_before place kept)
    ∙ rw is.least refl in
    let left : left_by file choices ≡ new.seen.items = sym (fill_by_all (byte_by file.least file.written file.synced choices) new.seen.items (length_chosen file.least file.greatest choices) 0 long same) in
    record {
      seen = left;
      least = length-left_by file choices ∙ rw (is.least, is.greatest) (sym least);
      greatest = length-left_by file choices ∙ rw (is.least, is.greatest) (sym greatest);
      written = λ place. ap (is_outside place) written;
      sound = left_rest (left_by file choices) (cycle_leaves file choices is.sound bytes).bytes;
    }
  where
    kept_before : (place : ℕ) → is_kept old.least file.written place ≡ true → get_or before place 0 ≡ get_or file.synced place 0
    kept_before place kept =
        let low : place < old.least = ltb-true place old.least (and_parts _ _ kept).0 in
        resized place low ∙ rw (← is.seen) (kept_same file place is.sound (rw is.least kept))

pub half_taken : (half : MemoryFile) (file : Stored) (choices : List ℕ) → IsHalf half file
    → 4 + free_below half.least half.written.items (length_chosen half.least half.greatest choices) ≡ taken_by file choices
half_taken half file choices is = rw (is.least, is.greatest) (ap (λ n. 4 + n) (free_same half.least half.written.items file.written is.written (length_chosen half.least half.greatest choices)))
