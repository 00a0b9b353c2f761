use Rattle.fit_grammar.proofs.KeptRow.ReadAgain.{written_definition}
use Rattle.fit_grammar.proofs.definition.kept.WrittenDefinition.lend.Goals as goal

pub of-requires : goal.of-requires
of-requires c =
    let at = c.self.invariant.at in
    record { definition = written_definition _ _ at.local at.written; size = c.self.invariant.size; bound = c.self.invariant.bound }
