-- What names stand for after changes, the newest first.
use Rattle.std.specs.Prelude.{◌≡◌, ℕ, ◌<◌, List, [], ◌∷◌, Option, None, Some, if◌then◌else◌, string_bytes}
use Rattle.std.specs.Str.{bytes_eq}
use Rattle.fit_places.specs.declared.memory_folder.NameChange.{NameChange}
use Rattle.fit_places.specs.Folder.{IsOneOf}

-- the number that a name stands for
abbrev pub number_by : List NameChange → List ℕ → Option ℕ
number_by [] name = None
number_by (change ∷ changes) name =
    if bytes_eq name (string_bytes change.name) then change.number else number_by changes name

-- what it stood for before each of them
abbrev pub earlier_by : List NameChange → List ℕ → List (Option ℕ)
earlier_by [] name = []
earlier_by (change ∷ changes) name =
    if bytes_eq name (string_bytes change.name) then change.before ∷ earlier_by changes name
    else earlier_by changes name

-- if it is a number, it is below this one
abbrev pub IsBelow : ℕ → Option ℕ → Type 0
IsBelow count number = (one : ℕ) → number ≡ Some one → one < count

-- no name stands for this number or a greater one
abbrev pub NamesBelow : ℕ → List NameChange → Type 0
NamesBelow count changes = (name : List ℕ) → IsBelow count (number_by changes name)

-- nor did one before
abbrev pub EarlierBelow : ℕ → List NameChange → Type 0
EarlierBelow count changes =
    (name : List ℕ) (one : ℕ) → IsOneOf (Some one) (earlier_by changes name) → one < count
