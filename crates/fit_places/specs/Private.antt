-- A folder while a file is written beside another, and after it was moved.
use Rattle.std.specs.Prelude.{◌≡◌, ◌≢◌, ◌⊎◌, ℕ, ◌+◌, ◌<◌, Bool, true, false, List, [], Option, None, Some, Result, OnOk, OnErr}
use Rattle.fit_places.specs.declared.place.Kind.TheVariants.{File}
use Rattle.fit_places.specs.Folder.{Folder, IsOneOf, MayStand}
use Rattle.fit_places.specs.Calls.{IsNewNumber, CanLock, HasCreated}
use Rattle.fit_places.specs.FolderStory.{FolderStory, AtEachMoment}
use Rattle.fit_places.specs.Replaced.{IsNew, name_beside, most_names}

-- the name stands for a file that can be locked, or for nothing
abbrev pub IsReady : List ℕ → Folder → Bool → Type 0
IsReady out folder true = CanLock out folder
IsReady out folder false = folder.names out ≡ None

-- a file was created under a name that is not the other's; or nothing, because it is that one or is taken
abbrev pub CreatesApart : List ℕ → List ℕ → Bool → FolderStory → FolderStory → Type 0
CreatesApart out beside true old new = (out ≢ beside) × HasCreated beside old new
CreatesApart out beside false old new =
    (new ≡ old) × ((out ≡ beside) ⊎ (old.now.names beside ≢ None))

-- a file was created under one of the names beside the other
pub record CreatesBeside (out beside : List ℕ) (old new : FolderStory) : Type 0 where
  pub number : ℕ
  pub below : number < most_names
  pub named : beside ≡ name_beside number
  pub creates : CreatesApart out beside true old new

-- since the start only a file was created, and perhaps changed
pub record IsBeside (beside : List ℕ) (number : ℕ) (start folder : Folder) : Type 0 where
  pub is_new : IsNewNumber number start
  pub is_free : start.names beside ≡ None
  pub stands : folder.names beside ≡ Some number
  pub names : (name : List ℕ) → name ≢ beside → folder.names name ≡ start.names name
  pub earlier : (name : List ℕ) → name ≢ beside → folder.earlier name ≡ start.earlier name
  pub things : (other : ℕ) → other ≢ number → folder.things other ≡ start.things other
  pub created : folder.created ≡ Some number
  pub kind : (folder.things number).thing.kind ≡ File
  pub keeps : folder.keeps_moved ≡ start.keeps_moved

-- that file is new, as it is to be, and synced
pub record IsFilled (out bytes : List ℕ) (number : ℕ) (start folder : Folder) : Type 0 where
  pub thing : IsNew out bytes start (folder.things number).thing
  pub synced : (folder.things number).is_synced ≡ true

-- that file was moved to its place
pub record IsMoved (out beside bytes : List ℕ) (number : ℕ) (start folder : Folder) : Type 0 where
  pub is_new : IsNewNumber number start
  pub is_free : start.names beside ≡ None
  pub stands : folder.names out ≡ Some number
  pub gone : folder.names beside ≡ None
  pub names : (name : List ℕ) → name ≢ out → name ≢ beside → folder.names name ≡ start.names name
  pub earlier : (name : List ℕ) → name ≢ beside → (one : Option ℕ) → IsOneOf one (folder.earlier name)
      → MayStand name start one
  pub things : (other : ℕ) → other ≢ number → folder.things other ≡ start.things other
  pub created : folder.created ≡ Some number
  pub thing : IsNew out bytes start (folder.things number).thing
  pub synced : start.keeps_moved ≡ true → (folder.things number).is_synced ≡ true

-- that file is still empty
pub record IsBegun (out beside : List ℕ) (is_there : Bool) (number : ℕ) (start folder : Folder) : Type 0 where
  pub apart : out ≢ beside
  pub ready : IsReady out start is_there
  pub file : IsBeside beside number start folder
  pub empty : (folder.things number).thing.bytes ≡ []

-- it has the mode of what the name stood for, if that was something
abbrev pub HasMode : List ℕ → ℕ → Folder → Folder → Type 0
HasMode out number start folder =
    (old : ℕ) → start.names out ≡ Some old
    → (folder.things number).thing.mode ≡ (start.things old).thing.mode

-- P is true at each moment of a run of calls, of which none failed, or the last one
pub record Goes {T E : Type 0} (P : Folder → Type 0) (result : Result T E) (old new : FolderStory) : Type 0 where
  pub run : AtEachMoment P old new
  pub ok : OnOk result (new.failed ≡ old.failed)
  pub err : OnErr result (new.failed ≡ old.failed + 1)

-- a file was created beside the name, which can be replaced
pub record IsPrepared (out : List ℕ) (other : Option (List ℕ)) (is_there : Bool) (beside : List ℕ)
    (old new : FolderStory) : Type 0 where
  pub number : ℕ
  pub below : number < most_names
  pub named : beside ≡ name_beside number
  pub created : HasCreated beside old new
  pub apart : out ≢ beside
  pub ready : IsReady out old.now is_there
  pub alone : (name : List ℕ) → other ≡ Some name → old.now.names name ≡ None
