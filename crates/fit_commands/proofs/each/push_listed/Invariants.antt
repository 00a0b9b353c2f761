use Rattle.std.proofs.Common.{◌≡◌, List, ℕ, ◌++◌, map}
use Rattle.std.specs.Prelude.{string_bytes}
use Rattle.fit_commands.proofs.each.push_listed.Given as goal

abbrev pub invariant-loop-line : goal.invariant-loop-line
invariant-loop-line l = (own : List (List ℕ)) × (map string_bytes l.all.items ≡ map string_bytes l.initial.all.items ++ own)
