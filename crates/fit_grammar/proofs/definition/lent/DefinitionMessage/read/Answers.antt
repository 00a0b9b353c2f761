use Rattle.std.proofs.Common.{◌∙◌}
use Rattle.fit_grammar.proofs.OneItem.Spelling.{definition_same}
use Rattle.fit_grammar.proofs.definition.lent.DefinitionMessage.read.Goals as goal

pub returns : goal.returns
returns c =
    definition_same _ _ c.local.ensures c.arch.ensures c.global.ensures (c.read_fields.ensures ∙ c.fields.ensures.fields)
    (c.read_developer.ensures ∙ c.developer.ensures.fields)
