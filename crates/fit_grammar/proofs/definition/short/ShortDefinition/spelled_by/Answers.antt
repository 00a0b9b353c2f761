use Rattle.std.proofs.Common.{rules, ap, sym, ◌∙◌, subst}
use Rattle.fit_grammar.specs.Format.Item.{content_size}
use Rattle.fit_grammar.specs.Private.DefinitionBytes.{definition_at, AreDefinition}
use Rattle.fit_grammar.specs.Private.FirstByte.{head_view}
use Rattle.fit_grammar.proofs.OneItem.DefinitionSize.{definition_whole}
use Rattle.fit_grammar.proofs.definition.short.ShortDefinition.spelled_by.Goals as goal

pub invariant_of-result : goal.invariant_of-result
invariant_of-result c =
    let bytes = c.args.bytes.now in
    let front = c.at_front.ensures in
    let whole : AreDefinition bytes = definition_whole bytes _ c.in-Definition.announced (sym c.read_head.ensures ∙ ap head_view c.in-Definition.is)
    (search rules) (sym c.definition_length.ensures.length ∙ c.if-definition_length-bytes.false) in
    record {
      within = search rules;
      definition = subst AreDefinition (sym front) whole;
      size = c.content_size-content_size.ensures.size ∙ ap content_size (c.new.ensures ∙ ap definition_at (sym front));
      bound = c.content_size-content_size.ensures.bound;
    }
