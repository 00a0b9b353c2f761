-- The definitions that are known by another file of a device.
use Rattle.std.specs.Prelude.{◌≡◌, ℕ, List, [], ◌∷◌, length, flat_map, Option, Some, None}
use Rattle.fit_grammar.specs.declared.definition.Definition.{Definition}
use Rattle.fit_grammar.specs.Format.Item.{Item, Defines}
use Rattle.fit_grammar.specs.Format.Records.{Records, in_force}
use Rattle.fit_grammar.specs.Format.File.{FileValue, FileOf}
use Rattle.fit_mending.specs.declared.known.Known.{Known}

-- the local numbers
abbrev pub locals : List ℕ
locals = 0 ∷ 1 ∷ 2 ∷ 3 ∷ 4 ∷ 5 ∷ 6 ∷ 7 ∷ 8 ∷ 9 ∷ 10 ∷ 11 ∷ 12 ∷ 13 ∷ 14 ∷ 15 ∷ []

-- a definition, if there is one, as an item
abbrev pub defined_by : Option Definition → List Item
defined_by None = []
defined_by (Some d) = Defines d ∷ []

-- the definitions in force after these items, for each local number that has one
abbrev pub definitions_after : List Item → List Item
definitions_after items = flat_map (λ local. defined_by (in_force items local)) locals

-- these are the definitions in force after the items: their bytes, and how many there are
pub record AreKnownAfter (items : List Item) (known : Known) : Type 0 where
  pub are_records : Records known.row.items (definitions_after items)
  pub count_is : known.count ≡ length (definitions_after items)

-- the same at the end of a file
pub record IsKnownBy (file : List ℕ) (known : Known) : Type 0 where
  pub value : FileValue
  pub is_file : FileOf file value
  pub are : AreKnownAfter value.items known
