use Rattle.std.proofs.Common.{List, ℕ, ◌++◌, map, length}
use Rattle.std.specs.Prelude.{string_bytes}
use Rattle.fit_commands.specs.Each.{AreNamesOf}
use Rattle.fit_commands.proofs.each.names_with.Given as goal

abbrev pub invariant-loop-rest : goal.invariant-loop-rest
invariant-loop-rest l = (more : List (List ℕ)) → AreNamesOf (map (λ word. word.now) l.rest) more
    → AreNamesOf (map (λ word. word.now) l.names.all.items) (map string_bytes l.all.items ++ more)

abbrev pub decreases-loop-rest : goal.decreases-loop-rest
decreases-loop-rest l = length l.rest
