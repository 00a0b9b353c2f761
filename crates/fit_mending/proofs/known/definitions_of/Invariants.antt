use Rattle.std.proofs.Common.{length}
use Rattle.fit_grammar.specs.Calls.Table.{definition_in}
use Rattle.fit_mending.proofs.Defined.{HasAdded}
use Rattle.fit_mending.proofs.known.definitions_of.Given as goal

abbrev pub invariant-loop-rest : goal.invariant-loop-rest
invariant-loop-rest l = HasAdded (definition_in l.latest) l.rest l.known

abbrev pub decreases-loop-rest : goal.decreases-loop-rest
decreases-loop-rest l = length l.rest
