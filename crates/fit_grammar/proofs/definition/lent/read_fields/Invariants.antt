use Rattle.std.proofs.Common.{◌≡◌, ◌+◌, ◌*◌, ◌≤◌, ◌++◌, length}
use Rattle.fit_grammar.specs.Private.DefinitionBytes.{fields_in}
use Rattle.fit_grammar.proofs.definition.lent.read_fields.Given as goal

abbrev pub invariant-loop-rest : goal.invariant-loop-rest
invariant-loop-rest l = (l.fields.items ++ fields_in l.rest ≡ fields_in l.bytes) × (3 * length l.fields.items + length l.rest ≤ 765)

abbrev pub decreases-loop-rest : goal.decreases-loop-rest
decreases-loop-rest l = length l.rest
