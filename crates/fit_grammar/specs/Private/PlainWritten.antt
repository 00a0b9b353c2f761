-- What is known while a plain form is written, item by item.
use Rattle.std.specs.Prelude.{◌≡◌, ℕ, ◌<◌, List, ◌++◌, Bool, false, Option, Some, Ok}
use Rattle.std.specs.List.{list_any}
use Rattle.fit_grammar.specs.declared.definition.Definition.{Definition}
use Rattle.fit_grammar.specs.Format.Item.{Item}
use Rattle.fit_grammar.specs.Format.Encoding.{encoded_items}
use Rattle.fit_grammar.specs.Calls.LentItem.{LentItem, DefinesHere, DataHere, AllUnder}
use Rattle.fit_grammar.specs.Calls.PlainForm.{plain_after, has_too_many_fields}
use Rattle.fit_grammar.specs.Calls.CheckedOutput.{WritesChecked}

-- the local numbers of an item are below 16
abbrev pub IsWritable : LentItem → Type 0
IsWritable (DefinesHere d) = d.local < 16
IsWritable (DataHere m) = (m.local < 16) × (m.definition.local ≡ m.local)

-- the text of these items was handed over and added to the checksum, and the plain form of the items `left` comes after it
pub record WrittenTo (items : List Item) (old now : Option (List ℕ)) (before after : ℕ)
    (timed : List Bool) (left : List LentItem) : Type 0 where
  pub definition_for : ℕ → Option Definition
  pub under : AllUnder definition_for left
  pub named : (l : ℕ) (d : Definition) → definition_for l ≡ Some d → d.local ≡ l
  pub made : List Item
  pub parts : items ≡ made ++ plain_after timed left
  pub few : list_any has_too_many_fields made ≡ false
  pub written : WritesChecked {T = Unit {0}} {E = Unit {0}} old now before after (Ok tt)
      (encoded_items made)
