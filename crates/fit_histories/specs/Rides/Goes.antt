-- What a call of a ride does over an honest disk.
use Rattle.fit_disk.specs.Story.{Story}
use Rattle.std.specs.Prelude.{Bool}
use Rattle.fit_histories.specs.declared.command.Command.{Command}
use Rattle.fit_histories.specs.declared.reply.Reply.{Reply}
use Rattle.fit_histories.specs.declared.ride.Ride.{Ride}
use Rattle.fit_histories.specs.Histories.Table.{History}
use Rattle.fit_histories.specs.Rides.Left.{LeftBy}
use Rattle.fit_histories.specs.Rides.Ride.{disk_in}
use Rattle.fit_histories.specs.Rides.Standing.{StandsIn, TakesStepFrom}

-- the reply is a step of each history in which the ride stands, and both files are as the command leaves them
pub record TakesStep {D : Type 0} (honest : Bool) (story : D → Story) (command : Command)
    (reply : Reply) (old new : Ride D) : Type 0 where
  pub step : (before : History) → StandsIn honest story old before
      → TakesStepFrom honest story before command reply new
  pub left : LeftBy command reply (story (disk_in old)) (story (disk_in new))
