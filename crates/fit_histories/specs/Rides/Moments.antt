-- What a power cut may leave at each moment of a call of a ride.
use Rattle.std.specs.Prelude.{true, false, Bool, IsTrue, [], ◌∷◌, ◌++◌, take}
use Rattle.fit_activity.specs.declared.recording.entry.Entry.TheVariants.{Stop}
use Rattle.fit_activity.specs.Rides.Recording.{Added}
use Rattle.fit_disk.specs.State.{Contents}
use Rattle.fit_disk.specs.Story.{Story, Throughout}
use Rattle.fit_recorder.specs.Files.Body.{EitherStands, StandsFor}
use Rattle.fit_histories.specs.declared.command.Command.{Command}
use Rattle.fit_histories.specs.declared.command.Command.TheVariants as commands
use Rattle.fit_histories.specs.declared.ride.Ride.{Ride}
use Rattle.fit_histories.specs.Histories.Claims.{no_claim, with_start}
use Rattle.fit_histories.specs.Histories.Table.{History, Idle, Riding, claims_of, was_begun}
use Rattle.fit_histories.specs.Rides.Ride.{disk_in}
use Rattle.fit_histories.specs.Rides.Standing.{Fits, StandsIn}

-- Files that stand for the list of the last commit; or in a commit for the whole list, and in a stop for that with its stop. In a start and
-- in an erasing the files are as the table allows if the device breaks it off; in any other command, or if a call failed in the recorder, as
-- the history allows.
abbrev pub MayLeave : History → Command → Contents → Type 0
MayLeave before (commands.Start start) = Fits (Idle (with_start start (claims_of before)) true)
MayLeave before commands.Erase = Fits (Idle (no_claim ∷ claims_of before) (was_begun before))
MayLeave (Riding list promise reopened false) (commands.Entry (Stop time)) =
    EitherStands (take promise list) (list ++ Added (Stop time) ∷ [])
MayLeave (Riding list promise reopened false) (commands.Entry entry) = StandsFor (take promise list)
MayLeave (Riding list promise reopened false) commands.Commit =
    EitherStands (take promise list) list
MayLeave before command = Fits before

-- and so it is at each moment of the call
abbrev pub LeavesAtMoments : {D : Type 0} → Bool → (D → Story) → Command → Ride D → Ride D → Type 0
LeavesAtMoments honest story command old new =
    IsTrue honest → (before : History) → StandsIn honest story old before
    → Throughout (MayLeave before command) (story (disk_in old)) (story (disk_in new))
