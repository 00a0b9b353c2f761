use Rattle.std.proofs.Common.{◌≡◌, true, false, drop, List}
use Rattle.fit_disk.specs.Memory.{memory_story, is_spent}
use Rattle.fit_histories.specs.Histories.Table.{Outcome}
use Rattle.fit_histories.specs.Rides.Ride.{CanGoOn, disk_in}
use Rattle.fit_histories.proofs.Histories.Runs.{Leads}
use Rattle.fit_histories.proofs.world.run_for.Given as goal

abbrev pub invariant-loop-event : goal.invariant-loop-event
invariant-loop-event g l =
    record {
      goes_on : CanGoOn true memory_story l.ride;
      not_spent : is_spent (disk_in l.ride) ≡ false;
      so_far : (outcomes : List Outcome) × g.K.Keeper.WasReported l.keeper outcomes × Leads l.fn.checked l.fn.choices l.choices l.events (drop l.event-index l.events) outcomes l.ride;
    }
