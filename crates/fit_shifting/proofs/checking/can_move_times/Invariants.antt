use Rattle.std.proofs.Common.{◌≡◌, length}
use Rattle.std.specs.List.{list_all}
use Rattle.fit_shifting.specs.Moved.{can_move_time}
use Rattle.fit_shifting.specs.Private.Content.{times_of}
use Rattle.fit_shifting.proofs.checking.can_move_times.Given as goal

abbrev pub invariant-loop-rest : goal.invariant-loop-rest
invariant-loop-rest l =
    list_all (can_move_time l.shift) (times_of l.arch l.rest) ≡ list_all (can_move_time l.shift) (times_of l.arch l.bytes)

abbrev pub decreases-loop-rest : goal.decreases-loop-rest
decreases-loop-rest l = length l.rest
