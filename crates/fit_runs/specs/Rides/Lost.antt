-- How much of a ride a power cut may lose if its recording commits by itself.
use Rattle.std.specs.Prelude.{◌≡◌, ◌≢◌, ◌<◌, ℕ, ◌+◌, Bool, true, false, List, [], ◌++◌, ◌∷◌, Some}
use Rattle.std.specs.List.{AllByRecursion}
use Rattle.fit_activity.specs.Rides.Recording.{Recorded, time_of}
use Rattle.fit_activity.specs.Rides.Stretch.{end_time}
use Rattle.fit_disk.specs.State.{Contents}
use Rattle.fit_disk.specs.Story.{Story, Throughout}
use Rattle.fit_recorder.specs.Files.Body.{StandsFor}
use Rattle.fit_histories.specs.declared.command.Command.TheVariants.{Commit, Erase}
use Rattle.fit_histories.specs.Histories.Claims.{Claim}
use Rattle.fit_histories.specs.Histories.Table.{History, Idle, Riding}
use Rattle.fit_histories.specs.Rides.Replies.{is_ok}
use Rattle.fit_runs.specs.Rides.Turns.{Turn, Asked, Faulty, AnswersLines, GoesByTurns, LeftByTurns}

-- each commit of these turns was ok
abbrev pub CommitsWell : List Turn → Type 0
CommitsWell [] = Unit {0}
CommitsWell (Asked event reply last ∷ turns) =
    (event.command ≡ Commit → is_ok reply ≡ true) × CommitsWell turns
CommitsWell (Faulty number fault ∷ turns) = CommitsWell turns

-- none of these turns is an erasing
abbrev pub ErasesNothing : List Turn → Type 0
ErasesNothing [] = Unit {0}
ErasesNothing (Asked event reply last ∷ turns) = (event.command ≢ Erase) × ErasesNothing turns
ErasesNothing (Faulty number fault ∷ turns) = ErasesNothing turns

-- The files have all of this list but entries that come less than so many seconds before its end, and maybe entries after it.
pub record HasAllBut (seconds : ℕ) (list : List Recorded) (contents : Contents) : Type 0 where
  pub kept : List Recorded
  pub lost : List Recorded
  pub split : list ≡ kept ++ lost
  pub late : AllByRecursion (λ entry. end_time list < time_of entry + seconds) lost
  pub more : List Recorded
  pub stands : StandsFor (kept ++ more) contents

-- if a recorder runs in this state, and no call failed in it: from here on a power cut leaves of its list all but the last seconds
abbrev pub LosesAtMost : ℕ → History → Story → Story → Type 0
LosesAtMost seconds (Riding list promise reopened false) old new =
    Throughout (HasAllBut seconds list) old new
LosesAtMost seconds _ old new = Unit {0}

-- A recording that commits by itself every so many seconds has done some lines, and each commit so far was ok. Then, at each moment from
-- there on until an erasing, a power cut leaves each entry of the ride but those that come less than so many seconds before the last one of
-- these lines.
abbrev pub LosesLastSeconds : Type 0
LosesLastSeconds =
    (seconds : ℕ) (claims : List Claim) (begun : Bool) (old new : Story) (lines : List (List ℕ))
    (turns rest : List Turn) (left : LeftByTurns (Idle claims begun) old new (turns ++ rest))
    → AnswersLines (Some seconds) [] 1 lines turns → CommitsWell turns → ErasesNothing rest
    → (here : History) × (mid : Story) × GoesByTurns (Idle claims begun) old turns here mid
    × GoesByTurns here mid rest left.after new × LosesAtMost seconds here mid new
