-- The latest definitions, each kept by the bytes that spell it.
use Rattle.std.specs.Prelude.{◌≡◌, ℕ, List, Option, map, option_map, length, slice_index_or, None, IfSome}
use Rattle.fit_grammar.specs.declared.definition.Definition.{Definition}
use Rattle.fit_grammar.specs.declared.definition.latest.Latest.TheInside.{Inside}
use Rattle.fit_grammar.specs.Private.DefinitionBytes.{definition_at}
use Rattle.fit_grammar.specs.Private.SizedDefinition.{AreSized}

abbrev pub definitions_of : Inside → List (Option Definition)
definitions_of s = map (option_map (λ sized. definition_at sized.bytes.now)) s.slots

-- there are sixteen local numbers; the bytes of each, if any, are those of one definition with its size
pub record AreDefinitions (s : Inside) : Type 0 where
  pub count : length s.slots ≡ 16
  pub each : (local : ℕ) → IfSome (slice_index_or s.slots local None) AreSized
