-- The fields that the messages of one global number have in a file.
use Rattle.std.specs.Prelude.{◌≡◌, ℕ, zero, suc, ◌-◌, Bool, false, not, List, [], ◌∷◌, ◌++◌, length, take, is_some, ◌==◌, ◌&&◌, ◌||◌, if◌then◌else◌}
use Rattle.fit_grammar.specs.declared.definition.FieldDefinition.{FieldDefinition}
use Rattle.fit_grammar.specs.Format.Item.{Item}
use Rattle.fit_grammar.specs.Calls.LentItem.{LentData, LentItem, DefinesHere, DataHere, items_lent}
use Rattle.fit_columns.specs.declared.plans.TheConstants.{MOST_COLUMNS}
use Rattle.fit_files.specs.declared.export.held.Held.{Held}

-- whether a field has the number, and is not of size 0
abbrev pub is_field : ℕ → FieldDefinition → Bool
is_field number field = (field.number == number) && not (field.size == 0)

-- whether one of these fields is
abbrev pub is_field_of : ℕ → List FieldDefinition → Bool
is_field_of number [] = false
is_field_of number (field ∷ fields) = is_field number field || is_field_of number fields

-- whether a message has the field; the time of a compressed timestamp is field 253
abbrev pub has_field : ℕ → LentData → Bool
has_field number m =
    is_field_of number m.definition.fields.items || ((number == 253) && is_some m.time)

-- whether a message of this global number has it
abbrev pub is_held : ℕ → List LentItem → ℕ → Bool
is_held message [] number = false
is_held message (DefinesHere d ∷ items) number = is_held message items number
is_held message (DataHere m ∷ items) number =
    ((m.definition.global == message) && has_field number m) || is_held message items number

-- the numbers below one, but not that of the time
abbrev pub others_below : (ℕ → Bool) → ℕ → List ℕ
others_below held zero = []
others_below held (suc number) =
    others_below held number ++ (if held number && not (number == 253) then number ∷ [] else [])

-- the time comes first, if it is there, and then the others by their numbers
abbrev pub numbers_by : (ℕ → Bool) → List ℕ
numbers_by held = (if held 253 then 253 ∷ [] else []) ++ others_below held 256

-- if there are none, it is the time alone
abbrev pub or_time : List ℕ → List ℕ
or_time [] = 253 ∷ []
or_time (number ∷ numbers) = number ∷ numbers

abbrev pub numbers_held : ℕ → List Item → List ℕ
numbers_held message items = or_time (numbers_by (is_held message (items_lent items)))

-- a table has so many columns, and the others are left out
abbrev pub fields_held : ℕ → List Item → List ℕ
fields_held message items = take MOST_COLUMNS (numbers_held message items)

-- these numbers were found
pub record AreHeld (numbers : List ℕ) (held : Held) : Type 0 where
  pub fields : held.fields.items ≡ take MOST_COLUMNS numbers
  pub left_out : held.left_out ≡ length numbers - MOST_COLUMNS
