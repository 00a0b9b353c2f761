use Rattle.std.proofs.Common.{◌≡◌, ◌++◌, List, ℕ, length, map}
use Rattle.fit_table.specs.NamedPlans.{AreNamedCells, spread}
use Rattle.fit_table.proofs.NamedLemmas.{name_of, seen}
use Rattle.fit_table.proofs.named.plan_of.Given as goal

abbrev pub invariant-loop-left : goal.invariant-loop-left
invariant-loop-left l =
    (done : List (List ℕ)) × (map name_of l.names ≡ done ++ map name_of l.left)
    × AreNamedCells (map seen l.told) l.fields l.start done (spread l.cells.items l.gap)

abbrev pub decreases-loop-left : goal.decreases-loop-left
decreases-loop-left l = length l.left
