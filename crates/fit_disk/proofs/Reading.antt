-- A file is read part by part.
use Rattle.std.proofs.Common.{◌≡◌, ◌≤◌, ◌+◌, ◌-◌, ℕ, List, ◌++◌, length, take, drop, sym, subst, ◌∙◌, ap, arith}
use Rattle.std.proofs.lemmas.Grind.{common_steps}
use Rattle.std.proofs.lemmas.List.{drop-drop, length-take, length-drop}
use Rattle.std.proofs.lemmas.Slice.{take-put_mid_below}
use Rattle.std.proofs.Math.Seq.{take-add}
use Rattle.fit_disk.specs.Witness.{IsPart}
use borrow.Rule.Slice.PartMut.{put_mid}

-- the file has at least as many bytes as were read from it
pub no_more : (count at : ℕ) (seen now : List ℕ) → count ≤ length now → take count now ≡ take count (drop at seen) → count ≤ length seen - at
no_more count at seen now fits same =
    omega (arith, fits, ap length same, length-take count now, length-take count (drop at seen), length-drop at seen)

-- what the file gives at a place, for a part that has room for it
part_is : (more place room : ℕ) (seen part : List ℕ) → more ≤ length part → IsPart seen place room (take more part)
    → take more part ≡ take more (drop place seen)
part_is more place room seen part fits is =
    let long : length (take more part) ≡ more = omega (arith, fits, length-take more part) in
    subst (λ n. take more part ≡ take n (drop place seen)) long is.bytes_there

-- the part, in the buffer into which it was read
part_in : (count more : ℕ) (buffer part : List ℕ) → count ≤ length buffer → length part ≡ length buffer - count → more ≤ length part
    → take more (drop count (put_mid count (length buffer - count) buffer part)) ≡ take more part
part_in count more buffer part within long fits = grind (arith, common_steps)

-- if what was read is the file's from `at` on, then with the next part it still is
pub reads_on : (count more at place room : ℕ) (seen buffer part : List ℕ) → count ≤ length buffer → length part ≡ length buffer - count → more ≤ length part
    → place ≡ at + count → take count buffer ≡ take count (drop at seen) → IsPart seen place room (take more part)
    → take (count + more) (put_mid count (length buffer - count) buffer part) ≡ take (count + more) (drop at seen)
reads_on count more at place room seen buffer part within long fits there front is =
    let new = put_mid count (length buffer - count) buffer part in
    let before : take count new ≡ take count (drop at seen) = take-put_mid_below count (length buffer - count) buffer part count (omega arith) within ∙ front in
    let next : take more (drop count new) ≡ take more (drop count (drop at seen)) =
    part_in count more buffer part within long fits ∙ part_is more place room seen part fits is
    ∙ ap (λ n. take more (drop n seen)) there ∙ ap (take more) (sym (drop-drop count at seen)) in
    take-add count more new ∙ ap (λ head. head ++ take more (drop count new)) before
    ∙ ap (λ tail. take count (drop at seen) ++ tail) next ∙ sym (take-add count more (drop at seen))
