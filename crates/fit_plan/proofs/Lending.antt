-- What a lent journal gives.
use Rattle.std.proofs.Common.{◌≡◌, ◌≤◌, ◌<◌, ◌-◌, ◌+◌, ℕ, Bool, true, false, List, [], ◌∷◌, length, take, drop, refl, sym, ap, ◌∙◌, subst, arith}
use Rattle.std.proofs.lemmas.List.{drop-take, take-take, length-take}
use Rattle.fit_disk.specs.Calls.{ReadsAt}
use Rattle.fit_disk.specs.Counts.{Counts, last_count, no_calls}
use Rattle.fit_disk.specs.Runs.{MakesAtMost}
use Rattle.fit_disk.specs.Story.{Story}
use Rattle.fit_disk.proofs.Numbers.{same_story}
use Rattle.fit_disk.specs.Numbers.{numbers_of}
use Rattle.fit_plan.specs.Lent.{lent_counts, lent_since, lent_story, lent_log, bit_of, IsLentWhole}
use Rattle.fit_plan.specs.Part.{HasFront}
use Rattle.fit_plan.specs.declared.journal.LentJournal.{LentJournal}

-- a read of the front that has all that the file gives is a read of the file
reads_front : (seen front buffer : List ℕ) (at room count : ℕ) (is_whole : Bool) → HasFront seen front is_whole
    → (is_whole ≡ false → at + room ≤ length front) → ReadsAt front at room buffer count → ReadsAt seen at room buffer count
reads_front seen front buffer at room count true is enough reads =
    subst (λ bytes. ReadsAt bytes at room buffer count) (is.whole refl) reads
reads_front seen front buffer at room count false is enough reads =
    let within : at + room ≤ length front = enough refl in
    let long : length front ≤ length seen = omega (arith, ap length is.same, length-take (length front) seen) in
    let after : ℕ = length front - at in
    let whole : length front ≡ at + after = omega (arith, within) in
    let fits : count ≤ after = omega (arith, reads.all, within) in
    record {
      all = omega (arith, reads.all, within, long);
      bytes = reads.bytes ∙ ap (λ bytes. take count (drop at bytes)) (is.same ∙ ap (λ n. take n seen) whole)
          ∙ ap (take count) (drop-take at after seen) ∙ take-take count after (drop at seen) fits;
    }

pub reads_file : (seen file front buffer : List ℕ) (at room count : ℕ) (is_whole : Bool) → file ≡ seen → HasFront file front is_whole
    → (is_whole ≡ false → at + room ≤ length front) → ReadsAt front at room buffer count → ReadsAt seen at room buffer count
reads_file seen file front buffer at room count is_whole same is enough reads =
    subst (λ bytes. ReadsAt bytes at room buffer count) same (reads_front file front buffer at room count is_whole is enough reads)

-- over a whole journal no run of calls fails that changes nothing and reads nothing of the data file
pub no_failure : (most : ℕ) (Failed : Type 0) (old new : LentJournal) → IsLentWhole old → most < last_count → MakesAtMost most 0 Failed (lent_log old) (lent_log new)
    → lent_story new ≡ lent_story old → Failed → ⊥
no_failure most Failed old new lent few ran same failed =
    let none : lent_counts old ≡ no_calls = lent.none in
    let calls : (lent_counts old).calls ≡ 0 = ap (λ (counts : Counts). counts.calls) none in
    let reads : (lent_counts old).data_reads ≡ 0 = ap (λ (counts : Counts). counts.data_reads) none in
    let before : (lent_counts old).failed ≡ 0 = ap (λ (counts : Counts). counts.failed) none in
    let few_calls : (lent_counts new).calls < last_count = omega (arith, ran.at_most, calls, few) in
    let no_reads : (lent_counts new).data_reads ≡ 0 = omega (arith, ran.few_reads, reads) in
    let numbers : bit_of new.is_whole ∷ numbers_of (lent_since new) ≡ bit_of old.is_whole ∷ numbers_of (lent_since old) = ran.memory in
    let began : lent_since new ≡ lent_since old = same_story _ _ cc in
    let whole : new.is_whole ≡ true = is_whole new.is_whole (ap (λ (numbers : List ℕ). first_of numbers) numbers ∙ ap bit_of lent.whole) in
    let past : length (lent_since new).past ≡ length (lent_story new).past = ap (λ (story : Story). length story.past) (began ∙ lent.began ∙ sym same) in
    let one : (lent_counts new).failed ≡ (lent_counts old).failed + 1 = (ran.cause failed).one few_calls in
    let unchanged : new.has_changed ≡ false = is_unchanged new.has_changed (λ changed. omega (arith, new.noted changed, past)) in
    omega (arith, new.went unchanged whole no_reads few_calls, one)
  where
    first_of : List ℕ → ℕ
    first_of [] = 0
    first_of (n ∷ ns) = n

    is_whole : (b : Bool) → bit_of b ≡ 1 → b ≡ true
    is_whole true one = refl
    is_whole false one = absurd (omega (arith, one))

    is_unchanged : (b : Bool) → (b ≡ true → ⊥) → b ≡ false
    is_unchanged true never = absurd (never refl)
    is_unchanged false never = refl
