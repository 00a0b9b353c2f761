-- Histories in which the choice bytes decide what each power cut leaves.
use Rattle.std.specs.Prelude.{◌≡◌, ℕ, Bool, List, [], ◌∷◌, drop}
use Rattle.fit_disk.specs.Counts.{Counts, Schedule, FailedAsPlanned, no_calls, unplanned}
use Rattle.fit_disk.specs.Events.{fresh}
use Rattle.fit_disk.specs.Story.{Story, seen_of}
use Rattle.fit_disk.specs.declared.disk.Which.TheVariants.{Data}
use Rattle.fit_histories.specs.declared.event.Event.{Event}
use Rattle.fit_histories.specs.Histories.Arranged.{Arranged, nothing_arranged, MayFail, arranged_after}
use Rattle.fit_histories.specs.Histories.Table.{History, at_first, ended, Step, Outcome, Stopped, Recovered}
use Rattle.fit_histories.specs.Rides.Begun.{BeginsForm}
use Rattle.fit_histories.specs.Rides.Standing.{LeavesAllowed, reply_in}
use Rattle.fit_histories.specs.Simulation.Arranging.{Moves}
use Rattle.fit_histories.specs.Simulation.Choices.{takes, IsLeftBy}

-- the disk between two events: both files, the calls made so far, and those that are to fail
pub record Simulated : Type 0 where
  pub files : Story
  pub counts : Counts
  pub schedule : Schedule

-- two empty files, and no call
abbrev pub at_start : Simulated
at_start = record { files = fresh; counts = no_calls; schedule = unplanned no_calls }

-- a file that is reported is what reads give of the data file
abbrev pub ReportsOutcome : Outcome → Story → Type 0
ReportsOutcome (Stopped file) files = file ≡ seen_of Data files
ReportsOutcome (Recovered summary file) files = file ≡ seen_of Data files
ReportsOutcome _ files = Unit {0}

-- One event over the disk, with these choice bytes: a step of the history, and what it leaves. A failure or a power cut is arranged as
-- the event states, and of all calls since exactly the arranged ones have failed. A start begins a journal with checksums, or without.
pub record IsOneStep (checked : Bool) (event : Event) (outcome : Outcome) (choices : List ℕ)
    (arranged : Arranged) (before after : History) (old new : Simulated) : Type 0 where
  pub step : Step before event.command outcome after
  pub may_fail : MayFail arranged outcome
  pub moves : Moves event.command (reply_in outcome) old.counts old.schedule new.counts new.schedule
  pub as_planned : FailedAsPlanned new.counts new.schedule
  pub left : IsLeftBy event.command choices (reply_in outcome) old.files new.files
  pub form : BeginsForm checked event.command (reply_in outcome) old.files new.files
  pub reports : ReportsOutcome outcome new.files
  pub rests : LeavesAllowed (ended after) new.files

-- From this disk the events come one after another. Each power cut leaves what the first choice bytes decide, and the next one goes
-- on with the bytes after those that it takes.
abbrev pub Follows : Bool → History → Arranged → Simulated → List ℕ → List Event → List Outcome
    → Type 0
Follows checked before arranged disk choices [] [] = Unit {0}
Follows checked before arranged disk choices (event ∷ events) (outcome ∷ outcomes) =
    (after : History) × (new : Simulated)
    × IsOneStep checked event outcome choices arranged before after disk new
    × Follows checked after (arranged_after arranged event.command outcome) new
    (drop (takes event.command choices disk.files.now) choices) events outcomes
Follows checked before arranged disk choices [] (outcome ∷ outcomes) = ⊥
Follows checked before arranged disk choices (event ∷ events) [] = ⊥

-- A history of these events over two empty files, in which these bytes decide what each power cut leaves. There are files before and after
-- each event, such that a power cut leaves of the files before it exactly what its bytes decide, a refusal leaves them as they were, a start,
-- a recovery and a reopening are answered by what reads give of them, and a file that is reported is the data file. The calls fail that
-- are arranged to, and no others. Each start that is done begins a journal with checksums, or each one without. Of a call that the device
-- broke off it says only what may be left at its moments.
abbrev pub FollowsChoices : Bool → List ℕ → List Event → List Outcome → Type 0
FollowsChoices checked choices events outcomes =
    Follows checked at_first nothing_arranged at_start choices events outcomes
