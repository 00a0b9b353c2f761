use Rattle.std.proofs.Common.{rules}
use Rattle.fit_grammar.proofs.KeptRow.ReadAgain.{written_front, written_definition}
use Rattle.fit_grammar.proofs.definition.kept.WrittenDefinition.new.Goals as goal

pub new-requires : goal.new-requires
new-requires c =
    let at = (written_front c.args.d.now _ _ _ c.requires c.write_definition.ensures.written (search rules)).0 in
    written_definition _ _ at.local at.written

pub invariant_of-result : goal.invariant_of-result
invariant_of-result c =
    record {
      at = (written_front c.args.d.now _ _ _ c.requires c.write_definition.ensures.written (search rules)).0;
      size = search rules;
      bound = search rules;
    }

pub returns-clause-same : goal.returns-clause-same
returns-clause-same c = (written_front c.args.d.now _ _ _ c.requires c.write_definition.ensures.written (search rules)).1
