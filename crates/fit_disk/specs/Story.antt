-- The states that a disk has had, and what a crash at any moment of a run of calls leaves.
use Rattle.std.specs.Prelude.{◌≡◌, ℕ, List, ◌∷◌, ◌++◌, All}
use Rattle.fit_disk.specs.declared.disk.Which.{Which}
use Rattle.fit_disk.specs.Stored.{Stored}
use Rattle.fit_disk.specs.State.{State, Contents, file_of, with_file, LeavesOnly}

-- the state now, and the earlier ones, the newest first
pub record Story : Type 0 where
  pub now : State
  pub past : List State

-- the story with one more state
abbrev pub state_then : State → Story → Story
state_then state old = record { now = state; past = old.now ∷ old.past }

-- the story with one more state, in which one file is replaced
abbrev pub then_file : Which → Stored → Story → Story
then_file which file old = state_then (with_file which file old.now) old

-- what reads of a file give now
abbrev pub seen_of : Which → Story → List ℕ
seen_of which story = (file_of which story.now).seen

-- Whatever a crash leaves satisfies P, in the old state and in each later one. This covers every moment
-- since, inside calls too: what may be left inside a call may also be left before it or after it.
pub record Throughout (P : Contents → Type 0) (old new : Story) : Type 0 where
  pub since : List State
  pub states : new.now ∷ new.past ≡ since ++ (old.now ∷ old.past)
  pub each : All (LeavesOnly P) since
  pub start : LeavesOnly P old.now
