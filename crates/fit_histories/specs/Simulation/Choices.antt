-- The choice bytes of a command: only a power cut takes some, and they decide what it leaves.
use Rattle.std.specs.Prelude.{◌≡◌, ℕ, min, List, length}
use Rattle.fit_disk.specs.Cycle.{cycled, taken_in}
use Rattle.fit_disk.specs.State.{State}
use Rattle.fit_disk.specs.Story.{Story}
use Rattle.fit_histories.specs.declared.command.Command.{Command}
use Rattle.fit_histories.specs.declared.command.Command.TheVariants as commands
use Rattle.fit_histories.specs.declared.reply.Reply.{Reply}
use Rattle.fit_histories.specs.Rides.Left.{LeftBy}

-- how many of the choice bytes a command takes
abbrev pub takes : Command → List ℕ → State → ℕ
takes commands.Power choices state = min (taken_in choices state) (length choices)
takes _ choices state = 0

-- a power cut leaves what the choice bytes decide, and any other command what is known of it
abbrev pub IsLeftBy : Command → List ℕ → Reply → Story → Story → Type 0
IsLeftBy commands.Power choices reply old new = new.now ≡ cycled choices old.now
IsLeftBy command choices reply old new = LeftBy command reply old new
