-- Stories with the same numbers are the same.
use Rattle.std.proofs.Common.{◌≡◌, ℕ, List, [], ◌∷◌, refl, ap, ◌∙◌, arith}
use Rattle.fit_disk.specs.Story.{Story}
use Rattle.fit_disk.specs.Numbers.{then_all, then_number, then_pair, then_stored, then_state, numbers_of}

-- numbers give an element and what follows it
abbrev Readable : {X : Type 0} → (X → List ℕ → List ℕ) → Type 0
Readable {X} put = (x y : X) (rest other : List ℕ) → put x rest ≡ put y other → (x ≡ y) × (rest ≡ other)

all_read : {X : Type 0} (put : X → List ℕ → List ℕ) → Readable put → Readable (then_all put)
all_read put reads [] [] rest other same = let tails : rest ≡ other = cc in (refl, tails)
all_read put reads [] (y ∷ ys) rest other same = let no : ⊥ = grind arith in absurd no
all_read put reads (x ∷ xs) [] rest other same = let no : ⊥ = grind arith in absurd no
all_read put reads (x ∷ xs) (y ∷ ys) rest other same =
    let tails : put x (then_all put xs rest) ≡ put y (then_all put ys other) = cc in
    let first = reads x y (then_all put xs rest) (then_all put ys other) tails in
    let later = all_read put reads xs ys rest other first.1 in
    let heads : x ≡ y = first.0 in
    let more : xs ≡ ys = later.0 in
    (cc, later.1)

number_read : Readable then_number
number_read x y rest other same = let heads : x ≡ y = cc in let tails : rest ≡ other = cc in (heads, tails)

pair_read : Readable then_pair
pair_read x y rest other same =
    let firsts : x.0 ≡ y.0 = cc in
    let seconds : x.1 ≡ y.1 = cc in
    let tails : rest ≡ other = cc in
    (ap (λ first. (first, x.1)) firsts ∙ ap (λ second. (y.0, second)) seconds, tails)

stored_read : Readable then_stored
stored_read x y rest other same =
    let first = all_read then_number number_read x.synced y.synced _ _ same in
    let second = all_read then_number number_read x.seen y.seen _ _ first.1 in
    let least : x.least ≡ y.least = let seconds = second.1 in cc in
    let greatest : x.greatest ≡ y.greatest = let seconds = second.1 in cc in
    let tails : then_all then_pair x.written rest ≡ then_all then_pair y.written other = let seconds = second.1 in cc in
    let third = all_read then_pair pair_read x.written y.written rest other tails in (
      ap (λ synced. record x { synced = synced }) first.0
          ∙ ap (λ seen. record x { synced = y.synced; seen = seen }) second.0
          ∙ ap (λ least. record x { synced = y.synced; seen = y.seen; least = least }) least
          ∙ ap (λ greatest. record { synced = y.synced; seen = y.seen; least = y.least; greatest = greatest; written = x.written }) greatest
          ∙ ap (λ written. record y { written = written }) third.0,
      third.1,
    )

state_read : Readable then_state
state_read x y rest other same =
    let first = stored_read x.data_file y.data_file _ _ same in
    let second = stored_read x.journal_file y.journal_file rest other first.1 in
    (ap (λ file. record x { data_file = file }) first.0 ∙ ap (λ file. record y { journal_file = file }) second.0, second.1)

pub same_story : (story other : Story) → numbers_of story ≡ numbers_of other → story ≡ other
same_story story other same =
    let first = state_read story.now other.now _ _ same in
    let second = all_read then_state state_read story.past other.past [] [] first.1 in
    ap (λ now. record story { now = now }) first.0 ∙ ap (λ past. record other { past = past }) second.0
