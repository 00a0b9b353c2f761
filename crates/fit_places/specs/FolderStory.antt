-- The folders that there were, and what is true of each in a run of calls.
use Rattle.std.specs.Prelude.{◌≡◌, ℕ, ◌+◌, List, ◌∷◌, ◌++◌, All}
use Rattle.fit_places.specs.Folder.{Folder}

-- the folder now, the earlier ones, the newest first, and how many calls failed
pub record FolderStory : Type 0 where
  pub now : Folder
  pub past : List Folder
  pub failed : ℕ

-- the story with one more folder
abbrev pub folder_then : Folder → FolderStory → FolderStory
folder_then folder old = record old { now = folder; past = old.now ∷ old.past }

-- the story after a call that failed and changed nothing
abbrev pub call_failed : FolderStory → FolderStory
call_failed old = record old { failed = old.failed + 1 }

-- nothing has changed, but that calls may have failed
pub record IsUnchanged (old new : FolderStory) : Type 0 where
  pub now : new.now ≡ old.now
  pub past : new.past ≡ old.past

-- P is true of the old folder and of each later one
pub record AtEachMoment (P : Folder → Type 0) (old new : FolderStory) : Type 0 where
  pub since : List Folder
  pub folders : new.now ∷ new.past ≡ since ++ (old.now ∷ old.past)
  pub each : All P since
  pub start : P old.now
