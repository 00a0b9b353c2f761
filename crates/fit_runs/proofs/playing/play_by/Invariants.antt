use Rattle.std.proofs.Common.{◌≡◌, ◌≤◌, List, [], drop}
use Rattle.fit_histories.specs.declared.reply.Reply.{Reply}
use Rattle.fit_histories.specs.Rides.Ride.{CanGoOn, is_riding}
use Rattle.fit_runs.proofs.Reported.Played.{Rode}
use Rattle.fit_runs.proofs.Reported.Replayed.{LeadsTo}
use Rattle.fit_runs.proofs.playing.play_by.Given as goal

abbrev pub invariant-loop-event : goal.invariant-loop-event
invariant-loop-event g l =
    record {
      goes_on : CanGoOn g.D.Disk.honest g.D.Disk.story l.ride;
      most : l.refused ≤ l.event-index;
      so_far : (stated : List Reply) × LeadsTo l.events (is_riding l.ride) (drop l.event-index l.events) stated l.refused l.initial.pen l.pen
          × Rode l.fn.checked g.D.Disk.honest g.D.Disk.story (g.D.Disk.story l.fn.disk) l.events (drop l.event-index l.events) stated l.ride;
      waits : l.pen.waiting ≡ [];
    }
