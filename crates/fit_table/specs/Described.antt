-- Developer fields, as the messages field_description of their file describe them (FIT protocol, "Developer data").
use Rattle.std.specs.Prelude.{ℕ, zero, ◌+◌, ℤ, pos, negsuc, Bool, false, List, [], ◌∷◌, ◌++◌, length, Option, Some, None, ◌==◌, ◌&&◌, nat_le, nat_lt, if◌then◌else◌}
use Rattle.std.specs.List.{before_first}
use Rattle.std.specs.Option.{option_or}
use Rattle.fit_base.specs.declared.base.BaseType.{BaseType}
use Rattle.fit_base.specs.declared.base.BaseType.TheVariants.{String}
use Rattle.fit_base.specs.Base.{base_type}
use Rattle.fit_base.specs.Value.{Values, Numbers}
use Rattle.fit_grammar.specs.Format.Message.{Message, MessageField}
use Rattle.fit_columns.specs.Columns.{cell_in, found_in}
use Rattle.fit_table.specs.declared.unit.Unit.{Unit as AnyUnit}
use Rattle.fit_table.specs.declared.unit.Unit.TheVariants.{Whole, Stated}

-- ---- the unit of the values

-- a scale is uint8 and not 0, an offset is sint8; any other or none is 1 and 0
abbrev pub scale_in : Option ℤ → ℕ
scale_in (Some (pos n)) = if nat_le 1 n && nat_le n 255 then n else 1
scale_in _ = 1

abbrev pub offset_in : Option ℤ → ℤ
offset_in (Some (pos n)) = if nat_le n 127 then pos n else pos 0
offset_in (Some (negsuc n)) = if nat_le n 127 then negsuc n else pos 0
offset_in None = pos 0

-- a scale of 1 with an offset of 0 leaves the number as it is
abbrev pub unit_with : ℕ → ℤ → AnyUnit
unit_with scale (pos zero) = if scale == 1 then Whole else Stated scale (pos zero)
unit_with scale offset = Stated scale offset

abbrev pub unit_stated : Option ℤ → Option ℤ → AnyUnit
unit_stated scale offset = unit_with (scale_in scale) (offset_in offset)

-- ---- one description

-- what a message says of a developer field: the place of the message in its file, which field it is, its base type byte, the unit of its
-- numbers by their scale, its name and its units
pub record Description : Type 0 where
  pub place : ℕ
  pub index : Option ℤ
  pub number : Option ℤ
  pub base : ℕ
  pub unit : AnyUnit
  pub name : List ℕ
  pub units : List ℕ

-- a base type byte; FF, which is none, if there is no such number
abbrev pub base_in : Option ℤ → ℕ
base_in (Some (pos n)) = if nat_le n 255 then n else 255
base_in _ = 255

-- the text of a field: the bytes before the first zero byte, if it is a string
abbrev pub text_by : Option BaseType → Values → List ℕ
text_by (Some String) (Numbers bytes) = before_first (λ byte. byte == 0) bytes
text_by _ _ = []

abbrev pub text_in : MessageField → List ℕ
text_in field = text_by (base_type field.base) field.values

-- the fields are developer_data_index, field_definition_number, fit_base_type_id, field_name, scale, offset and units
abbrev pub description : ℕ → Message → Description
description place m =
    record {
      place = place;
      index = cell_in 0 m.fields;
      number = cell_in 1 m.fields;
      base = base_in (cell_in 2 m.fields);
      unit = unit_stated (cell_in 6 m.fields) (cell_in 7 m.fields);
      name = text_in (found_in 3 m.fields);
      units = text_in (found_in 8 m.fields);
    }

-- ---- the descriptions of a file

-- those that are known after the message in this place: one more if it is a field_description, and no more than 256
abbrev pub known_after : List Description → ℕ → Message → List Description
known_after known place m =
    if (m.global == 206) && nat_lt (length known) 256
    then known ++ description place m ∷ [] else known

abbrev pub known_from : List Description → ℕ → List Message → List Description
known_from known place [] = known
known_from known place (m ∷ messages) =
    known_from (known_after known place m) (place + 1) messages

abbrev pub descriptions_of : List Message → List Description
descriptions_of messages = known_from [] 0 messages

-- ---- the description of a field

abbrev pub is_number : Option ℤ → ℕ → Bool
is_number (Some (pos n)) number = n == number
is_number _ number = false

-- whether it describes the developer fields of this index and number in the message in this place, which comes after it
abbrev pub describes : Description → ℕ → ℕ → ℕ → Bool
describes d place index number =
    nat_lt d.place place && (is_number d.index index && is_number d.number number)

abbrev pub one_if : Bool → Description → Option Description
one_if is d = if is then Some d else None

-- the last one that does
abbrev pub described_in : List Description → ℕ → ℕ → ℕ → Option Description
described_in [] place index number = None
described_in (d ∷ known) place index number =
    option_or (described_in known place index number) (one_if (describes d place index number) d)
