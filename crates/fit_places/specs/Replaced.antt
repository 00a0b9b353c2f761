-- What the replacing of a file leaves, at each moment and in the end.
use Rattle.std.specs.Prelude.{◌≡◌, ◌⊎◌, ◌≢◌, ℕ, ◌+◌, ◌<◌, true, List, ◌++◌, Option, Some, None, codes, decimal}
use Rattle.fit_places.specs.declared.place.Kind.TheVariants.{File}
use Rattle.fit_places.specs.declared.place.PlaceFault.{PlaceFault}
use Rattle.fit_places.specs.declared.place.PlaceFault.TheVariants.{Memory}
use Rattle.fit_places.specs.Folder.{Thing, Folder, thing_at, LeftAt}
use Rattle.fit_places.specs.FolderStory.{FolderStory}

-- how many names there are under which the new file may be written first
abbrev pub most_names : ℕ
most_names = 100

-- these names
abbrev pub name_beside : ℕ → List ℕ
name_beside number = codes ".fitrec-new-" ++ decimal number

-- a file with these bytes, and with the mode of what the name stood for, if that was something
pub record IsNew (name bytes : List ℕ) (old : Folder) (thing : Thing) : Type 0 where
  pub kind : thing.kind ≡ File
  pub bytes_are : thing.bytes ≡ bytes
  pub mode : (number : ℕ) → old.names name ≡ Some number
      → thing.mode ≡ (old.things number).thing.mode

-- that file stands there
abbrev pub IsNewThere : List ℕ → List ℕ → Folder → Option Thing → Type 0
IsNewThere name bytes old None = ⊥
IsNewThere name bytes old (Some thing) = IsNew name bytes old thing

-- the name stands for what it stood for, and a power cut leaves nothing else of it than before
pub record KeepsName (name : List ℕ) (old new : Folder) : Type 0 where
  pub now : thing_at name new ≡ thing_at name old
  pub cut : (left : Option Thing) → LeftAt name new left → LeftAt name old left

-- The name stands for what it stood for or for the new file, whole. So it does after a power cut too; if a move does not keep what was
-- synced, that is known only before the move.
pub record HasOldOrNew (name bytes : List ℕ) (old new : Folder) : Type 0 where
  pub now : (thing_at name new ≡ thing_at name old) ⊎ IsNewThere name bytes old (thing_at name new)
  pub cut : (old.keeps_moved ≡ true) ⊎ (new.names name ≡ old.names name) → (left : Option Thing)
      → LeftAt name new left
      → LeftAt name old left ⊎ IsNewThere name bytes old left

-- ... and each other name for what it stood for, but a name beside it that stood for nothing
pub record IsBetween (out beside bytes : List ℕ) (old new : Folder) : Type 0 where
  pub out_is : HasOldOrNew out bytes old new
  pub others : (name : List ℕ) → name ≢ out → name ≢ beside ⊎ (old.names name ≢ None)
      → KeepsName name old new

-- the name stands for the new file, each other name for what it stood for
pub record StandsNew (out bytes : List ℕ) (old new : Folder) : Type 0 where
  pub out_is : IsNewThere out bytes old (thing_at out new)
  pub others : (name : List ℕ) → name ≢ out → thing_at name new ≡ thing_at name old

-- the same, whatever comes
pub record IsReplaced (out bytes : List ℕ) (old new : Folder) : Type 0 where
  pub out_is : IsNewThere out bytes old (thing_at out new)
  pub others : (name : List ℕ) → name ≢ out → KeepsName name old new
  pub cut : (left : Option Thing) → LeftAt out new left → IsNewThere out bytes old left

-- each name stands for what it stood for
pub record IsAsBefore (out : List ℕ) (old new : Folder) : Type 0 where
  pub out_is : KeepsName out old new
  pub names : (name : List ℕ) → thing_at name new ≡ thing_at name old

-- All is as before. Or one call failed after the move, which was a sync. Or two calls failed, and the file beside could not be removed.
abbrev pub IsNotReplaced : List ℕ → List ℕ → FolderStory → FolderStory → Type 0
IsNotReplaced out bytes old new =
    IsAsBefore out old.now new.now
    ⊎ ((new.failed ≡ old.failed + 1) × StandsNew out bytes old.now new.now)
    ⊎ ((new.failed ≡ old.failed + 2) × KeepsName out old.now new.now)

-- The name stands for another thing than a file, or for a file that another program has locked; or the other name stands for something.
pub record IsRefused (out : List ℕ) (other : Option (List ℕ)) (folder : Folder) : Type 0 where
  pub number : ℕ
  pub why : ((folder.names out ≡ Some number) × ((folder.things number).thing.kind ≢ File))
      ⊎ ((folder.names out ≡ Some number) × ((folder.things number).is_locked ≡ true))
      ⊎ ((name : List ℕ) × (other ≡ Some name) × (folder.names name ≡ Some number))

-- each name beside it stands for something, or is its own
abbrev pub AreTaken : List ℕ → Folder → Type 0
AreTaken out folder =
    (number : ℕ) → number < most_names
    → (out ≡ name_beside number) ⊎ (folder.names (name_beside number) ≢ None)

-- a call failed, or else this is so
abbrev pub FailsOr : Type 0 → FolderStory → FolderStory → Type 0
FailsOr A old new = (old.failed < new.failed) ⊎ A

-- why a file is not replaced
abbrev pub HasCause : List ℕ → Option (List ℕ) → PlaceFault → FolderStory → FolderStory → Type 0
HasCause out other fault old new =
    FailsOr (IsRefused out other old.now ⊎ AreTaken out old.now ⊎ (fault ≡ Memory)) old new
