use Rattle.std.proofs.Common.{◌≡◌, All, take, drop}
use Rattle.fit_scripts.specs.Scripts.Replayed.{IsReplayed, first_simulated}
use Rattle.fit_scripts.proofs.script.replayed.first_simulated.Given as goal

abbrev pub invariant-loop-event : goal.invariant-loop-event
invariant-loop-event l =
    record {
      replayed : All IsReplayed (take l.event-index l.events);
      line : first_simulated l.events ≡ first_simulated (drop l.event-index l.events);
    }
