use Rattle.std.proofs.Common.{rules, sym, ◌∙◌, ◌≡◌}
use Rattle.std.specs.Prelude.{sum_by}
use Rattle.fit_grammar.specs.Private.DefinitionBytes.{fields_in}
use Rattle.fit_grammar.proofs.OneItem.DefinitionRead.{developer_sizes}
use Rattle.fit_grammar.proofs.definition.lent.sum_of_sizes.Goals as goal

pub returns-clause-developer : goal.returns-clause-developer
returns-clause-developer c =
    let sum : c.loop-rest.size ≡ sum_by (λ field. field.size) (fields_in c.args.bytes.now) = search rules in
    sum ∙ sym (developer_sizes (fields_in c.args.bytes.now))
