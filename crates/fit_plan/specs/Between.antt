-- What a crash between two stories leaves, of which one goes on from the other.
use Rattle.std.specs.Prelude.{◌≡◌, ◌⊎◌, List, ◌∷◌, ◌++◌, Contains}
use Rattle.fit_disk.specs.State.{State, Contents, BothLeft}
use Rattle.fit_disk.specs.Story.{Story}

abbrev pub states_of : Story → List State
states_of story = story.now ∷ story.past

-- states were added to those that there were
abbrev pub GoesOnTo : Story → Story → Type 0
GoesOnTo old new = (since : List State) × (states_of new ≡ since ++ states_of old)

-- at some moment from the old story to the new one a crash may leave these contents
pub record IsLeftBetween (old new : Story) (contents : Contents) : Type 0 where
  pub since : List State
  pub states : states_of new ≡ since ++ states_of old
  pub state : State
  pub moment : (state ≡ old.now) ⊎ Contains since state
  pub left : BothLeft state contents
