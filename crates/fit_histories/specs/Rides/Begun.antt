-- The form of the journal that a start begins, without checksums or with them, and which commands keep it.
use Rattle.std.specs.Prelude.{◌≡◌, Bool, true, false, List, ◌∷◌, take, IsTrue}
use Rattle.fit_disk.specs.State.{Contents, LeavesOnly}
use Rattle.fit_disk.specs.Story.{Story}
use Rattle.fit_journal.specs.Form.{form_of}
use Rattle.fit_journal.specs.Standing.{fresh_journal}
use Rattle.fit_recorder.specs.declared.fault.RecFault.TheVariants.{Device}
use Rattle.fit_histories.specs.declared.command.Command.{Command}
use Rattle.fit_histories.specs.declared.command.Command.TheVariants as commands
use Rattle.fit_histories.specs.declared.event.Event.{Event}
use Rattle.fit_histories.specs.declared.reply.Reply.{Reply}
use Rattle.fit_histories.specs.declared.reply.Reply.TheVariants as replies
use Rattle.fit_histories.specs.declared.ride.Ride.{Ride}
use Rattle.fit_histories.specs.Histories.Table.{History}
use Rattle.fit_histories.specs.Rides.Ride.{disk_in}
use Rattle.fit_histories.specs.Rides.Standing.{StandsIn}

-- the head of the journal states the form of a new one, without checksums or with them
abbrev pub HasForm : Bool → Contents → Type 0
HasForm checked contents =
    form_of (take 8 contents.in_journal) ≡ form_of (take 8 (fresh_journal checked))

-- and so it does in whatever a power cut leaves
abbrev pub LeavesForm : Bool → Story → Type 0
LeavesForm checked story = LeavesOnly (HasForm checked) story.now

-- A start that is done begins a journal of this form. Nothing but an erasing, or a start that the device broke off, ends it.
abbrev pub BeginsForm : Bool → Command → Reply → Story → Story → Type 0
BeginsForm checked (commands.Start start) replies.Done old new = LeavesForm checked new
BeginsForm checked (commands.Start start) (replies.Refused Device) old new = Unit {0}
BeginsForm checked commands.Erase reply old new = Unit {0}
BeginsForm checked command reply old new = LeavesForm checked old → LeavesForm checked new

-- ---- of whole runs

-- whether the journal is one that a start began, after a command with this reply
abbrev pub begun_on : Bool → Command → Reply → Bool
begun_on begun (commands.Start start) replies.Done = true
begun_on begun (commands.Start start) (replies.Refused Device) = false
begun_on begun commands.Erase reply = false
begun_on begun command reply = begun

-- and after these events with these replies
abbrev pub begun_after : Bool → List Event → List Reply → Bool
begun_after begun (event ∷ events) (reply ∷ replies) =
    begun_after (begun_on begun event.command reply) events replies
begun_after begun _ _ = begun

-- ---- of a ride over an honest disk

abbrev pub RideBeginsForm : {D : Type 0} → Bool → (D → Story) → Bool → Command → Reply → Ride D
    → Ride D → Type 0
RideBeginsForm honest story checked command reply old new =
    IsTrue honest → (before : History) → StandsIn honest story old before
    → BeginsForm checked command reply (story (disk_in old)) (story (disk_in new))
