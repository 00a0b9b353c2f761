-- What the folder in memory stands for.
use Rattle.std.specs.Prelude.{◌≡◌, ℕ, Bool, List, [], Option, None, Some, take, map, get_or}
use Rattle.fit_places.specs.declared.memory_folder.NameChange.{NameChange}
use Rattle.fit_places.specs.declared.memory_folder.MemoryFolder.{MemoryFolder}
use Rattle.fit_places.specs.declared.stored_thing.StoredThing.{StoredThing}
use Rattle.fit_places.specs.NameChanges.{number_by, earlier_by}
use Rattle.fit_places.specs.StoredThing.{numbered}
use Rattle.fit_places.specs.Changes.{empty_file}
use Rattle.fit_places.specs.Folder.{Folder, Numbered}

-- what has a number
abbrev pub thing_by : List StoredThing → ℕ → Numbered
thing_by things number = get_or (map numbered things) number (empty_file 0)

-- These changes of names, of which so many are not synced, and these things stand for this folder.
pub record Stands (changes : List NameChange) (recent : ℕ) (things : List StoredThing) (created : Option ℕ)
    (keeps_moved : Bool) (folder : Folder) : Type 0 where
  pub names : (name : List ℕ) → folder.names name ≡ number_by changes name
  pub earlier : (name : List ℕ) → folder.earlier name ≡ earlier_by (take recent changes) name
  pub numbers : (number : ℕ) → folder.things number ≡ thing_by things number
  pub last : folder.created ≡ created
  pub keeps : folder.keeps_moved ≡ keeps_moved

abbrev pub StandsFor : MemoryFolder → Folder → Type 0
StandsFor half folder =
    Stands half.changes.items half.recent half.things.items half.created half.keeps_moved folder

-- the bytes of the file that was created last
abbrev pub bytes_of : Option ℕ → List StoredThing → List ℕ
bytes_of None things = []
bytes_of (Some number) things = (thing_by things number).thing.bytes

abbrev pub bytes_in : MemoryFolder → List ℕ
bytes_in half = bytes_of half.created half.things.items
