-- What the place in memory shows.
use Rattle.std.specs.Prelude.{◌≡◌, ◌⊎◌, ℕ, Bool, true, List, Option, Result, IsErr, IfErr, option_map, slice_get}
use Rattle.fit_places.specs.declared.memory.MemoryPlace.{MemoryPlace}
use Rattle.fit_places.specs.declared.memory.Left.{Left}
use Rattle.fit_places.specs.declared.call_plan.CallPlan.{CallPlan}
use Rattle.fit_places.specs.declared.place.PlaceFault.{PlaceFault}
use Rattle.fit_places.specs.declared.place.PlaceFault.TheVariants.{Memory}
use Rattle.fit_places.specs.CallPlan.{must_fail, called}
use Rattle.fit_places.specs.Folder.{Thing, Folder, may_stand}
use Rattle.fit_places.specs.FolderStory.{FolderStory}
use Rattle.fit_places.specs.Noted.{story_by}

-- the story that its notes give
abbrev pub place_story : MemoryPlace → FolderStory
place_story place = story_by place.notes.notes

-- which of its next calls fail
abbrev pub place_plan : MemoryPlace → CallPlan
place_plan place = place.plan

abbrev pub folder_is_open : MemoryPlace → Bool
folder_is_open place = place.is_open

-- a call that is planned to fail does, and no other, unless memory was refused in it or this is so
pub record Fails {T : Type 0} (A : Type 0) (result : Result T PlaceFault) (old new : MemoryPlace) : Type 0 where
  pub planned : must_fail (place_plan old) ≡ true → IsErr result
  pub cause : IfErr result (λ fault. (must_fail (place_plan old) ≡ true) ⊎ (fault ≡ Memory) ⊎ A)
  pub plan : place_plan new ≡ called (place_plan old)

-- a thing, and whether it is kept
abbrev pub thing_left : Left → Thing × Bool
thing_left left = (record { kind = left.kind; bytes = left.bytes.now; mode = left.mode }, left.is_synced)

-- the same, of what a name stood for so many of its changes ago
abbrev pub left_back : List ℕ → ℕ → Folder → Option (Option (Thing × Bool))
left_back name back folder =
    option_map (λ at. option_map (λ number. ((folder.things number).thing, (folder.things number).is_synced)) at)
    (slice_get (may_stand name folder) back)
