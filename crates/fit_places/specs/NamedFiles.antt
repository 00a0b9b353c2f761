-- Files by name: what they hold, and what replacing one leaves of them.
use Rattle.std.specs.Prelude.{◌≡◌, ◌≢◌, ◌⊎◌, ℕ, List, Option, Some, None, Result, OnOk, OnErr, IfSome, codes, option_map, if◌then◌else◌}
use Rattle.std.specs.Str.{bytes_eq}
use Rattle.fit_places.specs.declared.memory.MemoryPlace.{MemoryPlace}
use Rattle.fit_places.specs.Folder.{Folder, thing_at}
use Rattle.fit_places.specs.Memory.{place_story}

-- if it is known what a file holds, it is this
abbrev pub Holds : Option (List ℕ) → List ℕ → Type 0
Holds known bytes = IfSome known (λ held. held ≡ bytes)

-- the file of this name holds these bytes, and each other one what it held
pub record ReplacesNamed (name bytes : List ℕ) (old new : List ℕ → Option (List ℕ)) : Type 0 where
  pub named : Holds (new name) bytes
  pub others : (other : List ℕ) → other ≢ name → new other ≡ old other

-- the same; after an Err it holds these bytes or what it held
pub record AnswersReplace {T E : Type 0} (name bytes : List ℕ) (old new : List ℕ → Option (List ℕ)) (result : Result T E) : Type 0 where
  pub ok : OnOk result (ReplacesNamed name bytes old new)
  pub err : OnErr result ((new name ≡ old name) ⊎ Holds (new name) bytes)

-- the name of the other file of a recording, if this is the name of one
abbrev pub other_name : List ℕ → Option (List ℕ)
other_name own =
    if bytes_eq own (codes "activity.fit") then Some (codes "activity.frj")
    else if bytes_eq own (codes "activity.frj") then Some (codes "activity.fit")
    else if bytes_eq own (codes "ACTIVITY.FIT") then Some (codes "ACTIVITY.FRJ")
    else if bytes_eq own (codes "ACTIVITY.FRJ") then Some (codes "ACTIVITY.FIT")
    else None

-- what the things of a folder hold
abbrev pub held_in : Folder → List ℕ → Option (List ℕ)
held_in folder name = option_map (λ thing. thing.bytes) (thing_at name folder)

-- the same of the place in memory
abbrev pub place_held : MemoryPlace → List ℕ → Option (List ℕ)
place_held place name = held_in (place_story place).now name
