use Rattle.std.proofs.Common.{length, map}
use Rattle.fit_text.proofs.PenLemmas.{Leaves}
use Rattle.fit_table.specs.Named.{titles}
use Rattle.fit_table.proofs.named.put_titles.Given as goal

abbrev pub invariant-loop-left : goal.invariant-loop-left
invariant-loop-left g l =
    Leaves l.initial.pen l.pen (titles (map (λ name. name.now) l.names)) (titles (map (λ name. name.now) l.left))

abbrev pub decreases-loop-left : goal.decreases-loop-left
decreases-loop-left g l = length l.left
