use Rattle.std.specs.Prelude.{IsErr}
use Rattle.fit_plan.proofs.Room.{has_room}
use Rattle.fit_plan.proofs.laws.no_device.Goals as goal

pub returns : goal.returns
returns c = λ calls bytes old new result. has_room calls bytes (IsErr result) old new
