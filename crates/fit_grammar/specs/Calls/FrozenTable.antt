-- The short definitions that frozen numbers stand for.
use Rattle.std.specs.Prelude.{◌≢◌, ℕ, ◌<◌, ◌≤◌, ◌==◌, if◌then◌else◌, List, [], map, take, Option, None, Some, slice_index_or}
use Rattle.fit_grammar.specs.declared.definition.Definition.{Definition}
use Rattle.fit_grammar.specs.declared.definition.frozen.FrozenShort.{FrozenShort}
use Rattle.fit_grammar.specs.Private.DefinitionBytes.{definition_at, AreDefinition}

-- the definition that the first so many bytes spell, if there are any
abbrev pub slot_in : FrozenShort → Option Definition
slot_in f = if f.len == 0 then None else Some (definition_at (take f.len f.bytes))

abbrev pub table_in : List FrozenShort → List (Option Definition)
table_in numbers = map slot_in numbers

-- these bytes, if any, are those of a definition
abbrev pub IsPossible : FrozenShort → Type 0
IsPossible f = f.len ≢ 0 → (f.len ≤ 97) × AreDefinition (take f.len f.bytes)

abbrev pub no_definition : FrozenShort
no_definition = record { len = 0; bytes = [] }

abbrev pub ArePossible : List FrozenShort → Type 0
ArePossible numbers = (k : ℕ) → k < 16 → IsPossible (slice_index_or numbers k no_definition)
