-- A story as a list of numbers, from which it can be read again. So a disk can say in numbers which story it began with.
use Rattle.std.specs.Prelude.{ℕ, List, [], ◌∷◌}
use Rattle.fit_disk.specs.State.{State}
use Rattle.fit_disk.specs.Stored.{Stored}
use Rattle.fit_disk.specs.Story.{Story}

-- each element in front of the numbers that follow, with 1 before each and 0 after the last
abbrev pub then_all : {X : Type 0} → (X → List ℕ → List ℕ) → List X → List ℕ → List ℕ
then_all put [] rest = 0 ∷ rest
then_all put (x ∷ xs) rest = 1 ∷ put x (then_all put xs rest)

abbrev pub then_number : ℕ → List ℕ → List ℕ
then_number number rest = number ∷ rest

abbrev pub then_pair : ℕ × ℕ → List ℕ → List ℕ
then_pair pair rest = pair.0 ∷ pair.1 ∷ rest

abbrev pub then_stored : Stored → List ℕ → List ℕ
then_stored file rest =
    then_all then_number file.synced
    (then_all then_number file.seen
    (file.least ∷ file.greatest ∷ then_all then_pair file.written rest))

abbrev pub then_state : State → List ℕ → List ℕ
then_state state rest = then_stored state.data_file (then_stored state.journal_file rest)

abbrev pub numbers_of : Story → List ℕ
numbers_of story = then_state story.now (then_all then_state story.past [])
