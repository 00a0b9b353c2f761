use Rattle.std.proofs.Common.{◌≡◌, ◌+◌, ◌*◌, ◌≤◌, ◌++◌, length}
use Rattle.fit_grammar.specs.Private.DefinitionBytes.{developer_in}
use Rattle.fit_grammar.proofs.definition.lent.read_developer.Given as goal

abbrev pub invariant-loop-rest : goal.invariant-loop-rest
invariant-loop-rest l =
    (l.fields.items ++ developer_in l.rest ≡ developer_in l.bytes) × (3 * length l.fields.items + length l.rest ≤ 765)

abbrev pub decreases-loop-rest : goal.decreases-loop-rest
decreases-loop-rest l = length l.rest
