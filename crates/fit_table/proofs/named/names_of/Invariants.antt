use Rattle.std.proofs.Common.{◌≡◌, length, map}
use Rattle.fit_table.specs.Named.{names_in, names_after}
use Rattle.fit_table.proofs.named.names_of.Given as goal

abbrev pub invariant-loop-left : goal.invariant-loop-left
invariant-loop-left l = names_after (map (λ name. name.now) l.names.items) l.left ≡ names_in l.known

abbrev pub decreases-loop-left : goal.decreases-loop-left
decreases-loop-left l = length l.left
