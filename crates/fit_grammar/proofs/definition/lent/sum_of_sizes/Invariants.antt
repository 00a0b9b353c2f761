use Rattle.std.proofs.Common.{◌≡◌, ◌+◌, ◌*◌, ◌≤◌, length}
use Rattle.std.specs.Prelude.{sum_by}
use Rattle.fit_grammar.specs.Private.DefinitionBytes.{fields_in}
use Rattle.fit_grammar.proofs.definition.lent.sum_of_sizes.Given as goal

abbrev pub invariant-loop-rest : goal.invariant-loop-rest
invariant-loop-rest l =
    (l.size + sum_by (λ field. field.size) (fields_in l.rest) ≡ sum_by (λ field. field.size) (fields_in l.bytes))
    × (3 * l.size + 255 * length l.rest ≤ 195075)

abbrev pub decreases-loop-rest : goal.decreases-loop-rest
decreases-loop-rest l = length l.rest
