use Rattle.std.proofs.Common.{◌≡◌, ◌+◌, length}
use Rattle.fit_table.proofs.NamedLemmas.{sizes}
use Rattle.fit_table.proofs.named.size_of.Given as goal

abbrev pub invariant-loop-left : goal.invariant-loop-left
invariant-loop-left l = l.size + sizes l.left ≡ sizes l.fields

abbrev pub decreases-loop-left : goal.decreases-loop-left
decreases-loop-left l = length l.left
