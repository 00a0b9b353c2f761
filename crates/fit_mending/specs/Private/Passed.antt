-- What is known of the items that were passed at the front of some bytes, after earlier ones.
use Rattle.std.specs.Prelude.{◌≡◌, ℕ, ◌≤◌, List, ◌++◌, length, take, Option}
use Rattle.fit_grammar.specs.declared.definition.Definition.{Definition}
use Rattle.fit_grammar.specs.Format.Item.{Item}
use Rattle.fit_grammar.specs.Format.Records.{RecordsAfter, in_force}

-- after the items `before`, so many of the first bytes are the records of some items, and these definitions are in force after them
pub record HasPassed (before : List Item) (bytes : List ℕ) (front : ℕ)
    (definition_for : ℕ → Option Definition) : Type 0 where
  pub within : front ≤ length bytes
  pub items : List Item
  pub are_records : RecordsAfter before (take front bytes) items
  pub in_force_are : definition_for ≡ in_force (before ++ items)

-- after the items `before`, the first of these items were passed, and these definitions are in force after them; the bytes left are the
-- records of the others
pub record HasLeft (before items : List Item) (rest : List ℕ) (definition_for : ℕ → Option Definition) : Type 0 where
  pub passed : List Item
  pub others : List Item
  pub items_are : items ≡ passed ++ others
  pub in_force_are : definition_for ≡ in_force (before ++ passed)
  pub are_records : RecordsAfter (before ++ passed) rest others
