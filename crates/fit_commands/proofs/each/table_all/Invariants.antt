use Rattle.std.proofs.Common.{◌≡◌, List, ℕ, ◌+◌, ◌≤◌, ◌++◌, length, map}
use Rattle.std.specs.Prelude.{string_bytes}
use Rattle.fit_commands.specs.Each.{AddsTables}
use Rattle.fit_commands.proofs.each.table_all.Given as goal

abbrev pub invariant-loop-rest : goal.invariant-loop-rest
invariant-loop-rest g l = (l.left_out + length l.rest ≤ length l.names)
    × ((some : List (List ℕ)) × (map string_bytes l.names ≡ some ++ map string_bytes l.rest)
    × AddsTables l.layout (g.F.NamedFiles.held l.files) some (g.O.Write.contents l.initial.out) (g.O.Write.contents l.out) l.left_out)

abbrev pub decreases-loop-rest : goal.decreases-loop-rest
decreases-loop-rest g l = length l.rest
