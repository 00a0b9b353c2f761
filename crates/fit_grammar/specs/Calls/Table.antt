-- The lookup of definitions: in a table, and after an item.
use Rattle.std.specs.Prelude.{ℕ, List, Option, None, slice_index_or}
use Rattle.std.specs.Option.{option_or}
use Rattle.fit_grammar.specs.declared.definition.Definition.{Definition}
use Rattle.fit_grammar.specs.Format.Item.{Item}
use Rattle.fit_grammar.specs.Format.Records.{definition_by}

-- the definition of a local number; none after the table's end
abbrev pub definition_in : List (Option Definition) → ℕ → Option Definition
definition_in table local = slice_index_or table local None

-- the definitions in force after an item, given those in force before it
abbrev pub in_force_after : Item → (ℕ → Option Definition) → ℕ → Option Definition
in_force_after item definition_for local =
    option_or (definition_by item local) (definition_for local)

-- the most bytes that a short definition is written as
abbrev pub longest_short : ℕ
longest_short = 96
