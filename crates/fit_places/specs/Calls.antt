-- What each call of an honest place does to its story.
use Rattle.std.specs.Prelude.{◌≡◌, ℕ, Bool, true, false, List, None, Some, Result, OnOk, OnErr, IfOk}
use Rattle.fit_places.specs.declared.place.Kind.TheVariants.{File}
use Rattle.fit_places.specs.Folder.{Folder, MayStand}
use Rattle.fit_places.specs.FolderStory.{FolderStory, folder_then, call_failed}
use Rattle.fit_places.specs.Changes.{after_creation, content_written, with_change, with_bytes}

-- either this was done, or the call failed and changed nothing
pub record Does {T E : Type 0} (result : Result T E) (done old new : FolderStory) : Type 0 where
  pub ok : OnOk result (new ≡ done)
  pub err : OnErr result (new ≡ call_failed old)

-- the name stands for a regular file, which nobody else has locked
pub record CanLock (name : List ℕ) (folder : Folder) : Type 0 where
  pub number : ℕ
  pub stands : folder.names name ≡ Some number
  pub is_file : (folder.things number).thing.kind ≡ File
  pub is_free : (folder.things number).is_locked ≡ false

-- no name stands for this number, or may after a power cut
abbrev pub IsNewNumber : ℕ → Folder → Type 0
IsNewNumber number folder = (name : List ℕ) → MayStand name folder (Some number) → ⊥

-- an empty file of a new number was created under a name that stood for nothing
pub record HasCreated (name : List ℕ) (old new : FolderStory) : Type 0 where
  pub number : ℕ
  pub mode : ℕ
  pub is_new : IsNewNumber number old.now
  pub is_free : old.now.names name ≡ None
  pub story : new ≡ folder_then (after_creation name number mode old.now) old

-- a file was created, or the name stands for something
abbrev pub Created : List ℕ → Bool → FolderStory → FolderStory → Type 0
Created name true old new = HasCreated name old new
Created name false old new = (new ≡ old) × (old.now.names name ≡ None → ⊥)

pub record Creates {E : Type 0} (name : List ℕ) (result : Result Bool E) (old new : FolderStory) : Type 0 where
  pub ok : IfOk result (λ is_free. Created name is_free old new)
  pub err : OnErr result (new ≡ call_failed old)

-- the bytes were appended; or the call failed, and the file may have any bytes
pub record Writes {T E : Type 0} (bytes : List ℕ) (result : Result T E) (old new : FolderStory) : Type 0 where
  pub ok : OnOk result (new ≡ folder_then (content_written bytes old.now) old)
  pub err : OnErr result ((part : List ℕ)
      × (new ≡ call_failed (folder_then (with_change old.now.created (with_bytes part) old.now) old)))
