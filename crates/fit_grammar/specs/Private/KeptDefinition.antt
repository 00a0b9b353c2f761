-- A definition, kept in the bytes that it is written as.
use Rattle.std.specs.Prelude.{◌≡◌, ℕ, List, ◌≤◌, ◌<◌, take, length}
use Rattle.fit_grammar.specs.declared.definition.Definition.{Definition}
use Rattle.fit_grammar.specs.declared.definition.kept.WrittenDefinition.TheInside.{Inside}
use Rattle.fit_grammar.specs.Format.Item.{Defines, content_size}
use Rattle.fit_grammar.specs.Format.Encoding.{encoded_item}
use Rattle.fit_grammar.specs.Private.DefinitionBytes.{definition_at}

-- the definition that the bytes in use spell
abbrev pub definition_written : Inside → Definition
definition_written w = definition_at (take w.len w.bytes)

-- the first `len` bytes are those that their definition is written as
pub record IsWrittenAt (bytes : List ℕ) (len : ℕ) : Type 0 where
  pub within : len ≤ length bytes
  pub local : (definition_at (take len bytes)).local < 16
  pub written : take len bytes ≡ encoded_item (Defines (definition_at (take len bytes)))

-- the bytes in use are so written, and the size is that of the content
pub record IsWritten (w : Inside) : Type 0 where
  pub at : IsWrittenAt w.bytes w.len
  pub size : w.content_size ≡ content_size (definition_written w)
  pub bound : w.content_size ≤ 130050
