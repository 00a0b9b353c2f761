-- The bytes of a definition, with the size of a data message's content under it.
use Rattle.std.specs.Prelude.{◌≡◌, ◌≤◌}
use Rattle.fit_grammar.specs.declared.definition.lent.SizedBytes.{SizedBytes}
use Rattle.fit_grammar.specs.Format.Item.{content_size}
use Rattle.fit_grammar.specs.Private.DefinitionBytes.{definition_at, AreDefinition}

-- the bytes are those of one definition, and the size is the sum of the sizes of its fields and developer fields
pub record AreSized (sized : SizedBytes) : Type 0 where
  pub definition : AreDefinition sized.bytes.now
  pub size : sized.content_size ≡ content_size (definition_at sized.bytes.now)
  pub bound : sized.content_size ≤ 130050
