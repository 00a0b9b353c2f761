-- A short definition, kept in the bytes that spell it.
use Rattle.std.specs.Prelude.{◌≡◌, ◌≤◌, take, length}
use Rattle.fit_grammar.specs.declared.definition.Definition.{Definition}
use Rattle.fit_grammar.specs.declared.definition.short.ShortDefinition.TheInside.{Inside}
use Rattle.fit_grammar.specs.Format.Item.{content_size}
use Rattle.fit_grammar.specs.Private.DefinitionBytes.{definition_at, AreDefinition}

-- the definition that the bytes in use spell
abbrev pub definition_spelled : Inside → Definition
definition_spelled w = definition_at (take w.len w.bytes)

-- the bytes in use are those of one definition, and the size is that of the content
pub record IsSpelled (w : Inside) : Type 0 where
  pub within : w.len ≤ length w.bytes
  pub definition : AreDefinition (take w.len w.bytes)
  pub size : w.content_size ≡ content_size (definition_spelled w)
  pub bound : w.content_size ≤ 130050
