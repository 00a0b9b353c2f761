-- A folder as it is now, and what a power cut may leave of it.
use Rattle.std.specs.Prelude.{◌≡◌, ◌⊎◌, ℕ, Bool, true, List, ◌∷◌, [], Option, None, Some, option_map}
use Rattle.fit_places.specs.declared.place.Kind.{Kind}

-- what a name stands for; of another thing than a file, only its kind is meant
pub record Thing : Type 0 where
  pub kind : Kind
  pub bytes : List ℕ
  pub mode : ℕ

-- the same, whether it was synced since it was last changed, and whether another program has it locked
pub record Numbered : Type 0 where
  pub thing : Thing
  pub is_synced : Bool
  pub is_locked : Bool

-- What each name stands for, by number; what it stood for before, since the folder was last synced; what has each number; which file was
-- created last; and whether a move keeps what was synced of the file that it moves. A FAT card keeps it once the file is synced again.
pub record Folder : Type 0 where
  pub names : List ℕ → Option ℕ
  pub earlier : List ℕ → List (Option ℕ)
  pub things : ℕ → Numbered
  pub created : Option ℕ
  pub keeps_moved : Bool

abbrev pub thing_at : List ℕ → Folder → Option Thing
thing_at name folder = option_map (λ number. (folder.things number).thing) (folder.names name)

abbrev pub kind_at : List ℕ → Folder → Option Kind
kind_at name folder = option_map (λ number. (folder.things number).thing.kind) (folder.names name)

abbrev pub IsOneOf : Option ℕ → List (Option ℕ) → Type 0
IsOneOf number [] = ⊥
IsOneOf number (first ∷ others) = (number ≡ first) ⊎ IsOneOf number others

-- what a name stands for now, and stood for since the folder was last synced
abbrev pub may_stand : List ℕ → Folder → List (Option ℕ)
may_stand name folder = folder.names name ∷ folder.earlier name

-- after a power cut a name stands for this number
abbrev pub MayStand : List ℕ → Folder → Option ℕ → Type 0
MayStand name folder number = IsOneOf number (may_stand name folder)

-- after a power cut a name stands for this: for a thing that was synced, or for anything in the place of one that was not
abbrev pub LeftAt : List ℕ → Folder → Option Thing → Type 0
LeftAt name folder None = MayStand name folder None
LeftAt name folder (Some thing) =
    (number : ℕ) × MayStand name folder (Some number)
    × ((folder.things number).is_synced ≡ true → thing ≡ (folder.things number).thing)
