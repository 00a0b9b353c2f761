-- One more definition after others.
use Rattle.std.specs.Prelude.{◌≡◌, ◌+◌, ◌≤◌, ◌++◌, length, Option}
use Rattle.fit_grammar.specs.declared.definition.Definition.{Definition}
use Rattle.fit_grammar.specs.Format.Encoding.{encoded_items}
use Rattle.fit_mending.specs.declared.known.Known.{Known}
use Rattle.fit_mending.specs.Known.{defined_by}

-- a definition was added, if there is one
pub record AddsDefined (definition : Option Definition) (old new : Known) : Type 0 where
  pub row : new.row.items ≡ old.row.items ++ encoded_items (defined_by definition)
  pub count : new.count ≡ old.count + length (defined_by definition)
  pub short : length new.row.items ≤ length old.row.items + 1537
