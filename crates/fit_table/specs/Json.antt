-- A file as JSON in the names and the units of the Profile. Each field is named and written as its column in a table is.
use Rattle.std.specs.Prelude.{◌≡◌, ℕ, ℤ, pos, negsuc, Bool, true, false, List, [], ◌∷◌, ◌++◌, length, Option, Some, None, IfSome, slice_index_or, codes, option_map, nat_le, ◌==◌, ◌&&◌, if◌then◌else◌}
use Rattle.std.specs.Borrow.{Bor}
use Rattle.fit_base.specs.declared.base.BaseType.{BaseType}
use Rattle.fit_base.specs.declared.base.BaseType.TheVariants.{Byte}
use Rattle.fit_base.specs.Number.{twos_complement}
use Rattle.fit_base.specs.Base.{base_type, row_of, has_sign}
use Rattle.fit_base.specs.Value.{Values, Numbers, values_of}
use Rattle.fit_grammar.specs.Format.Message.{MessageField, MessageDeveloperField, messages_of}
use Rattle.fit_grammar.specs.Format.File.{FileValue}
use Rattle.fit_text.specs.Date.{date_text}
use Rattle.fit_text.specs.Form.{FileForm, lines_of}
use Rattle.fit_text.specs.Json.{json_form, json_notation, string_json, developer_key, developer_json}
use Rattle.fit_text.specs.Values.{number_as, quoted, values_as}
use Rattle.fit_profile.specs.declared.scale.Scale.{Scale}
use Rattle.fit_profile.specs.declared.scale.Scale.TheVariants.{Whole as AsItIs}
use Rattle.fit_profile.specs.Facts.{facts_of}
use Rattle.fit_profile.specs.Row.{row_by}
use Rattle.fit_profile.specs.Table.{message_named}
use Rattle.fit_columns.specs.Columns.{is_whole}
use Rattle.fit_table.specs.declared.unit.Unit.{Unit as AnyUnit}
use Rattle.fit_table.specs.declared.unit.Unit.TheVariants.{Whole, Date, Scaled, Stated}
use Rattle.fit_table.specs.declared.json.known.Found.{Found}
use Rattle.fit_table.specs.Described.{Description, described_in, descriptions_of}
use Rattle.fit_table.specs.Number.{unit_text}
use Rattle.fit_table.specs.Table.{name_of}
use Rattle.fit_table.specs.Unit.{unit_by, shown_by, suffix_of, end_of}

-- ---- units

-- the types whose values are written in units: whole numbers of at most four bytes
abbrev pub has_units : Option BaseType → Bool
has_units None = false
has_units (Some Byte) = false
has_units (Some type) = is_whole type

-- the units whose values are the numbers of the file
abbrev pub keeps_scale : Scale → Bool
keeps_scale AsItIs = true
keeps_scale scale = false

abbrev pub keeps_number : AnyUnit → Bool
keeps_number (Scaled scale) = keeps_scale scale
keeps_number (Stated scale offset) = false
keeps_number unit = true

-- whether the values of a field are written in units: numbers of such a type are
abbrev pub are_in_units : Option BaseType → Values → Bool
are_in_units type (Numbers (n ∷ numbers)) = has_units type
are_in_units type values = false

-- a unit as the values have it: they are in it, or they are as in the file, and then it has to keep the number
abbrev pub unit_for : Bool → AnyUnit → AnyUnit
unit_for in_units unit = if in_units then unit else if keeps_number unit then unit else Whole

abbrev pub field_unit : Bool → ℕ → MessageField → AnyUnit
field_unit utc message field =
    unit_for (are_in_units (base_type field.base) field.values) (shown_by false utc (unit_by true message field.number))

-- ---- values

-- a time as a date, if it is a calendar time of 32 bits
abbrev pub date_json : ℤ → List ℕ
date_json (pos n) =
    if nat_le 268435456 n && nat_le n 4294967295 then quoted (date_text n) else codes "null"
date_json (negsuc n) = codes "null"

-- a number in a unit, as the table writes it
abbrev pub value_json : AnyUnit → ℤ → List ℕ
value_json Date value = date_json value
value_json unit value = unit_text [] unit value

abbrev pub number_json : AnyUnit → BaseType → ℕ → List ℕ
number_json unit type n =
    if n == (row_of type).invalid then codes "null"
    else value_json unit (if has_sign type then twos_complement (row_of type).size n else pos n)

-- a number of a type that has units in its unit; of another one as without the Profile
abbrev pub number_in : AnyUnit → BaseType → ℕ → List ℕ
number_in unit type n =
    if has_units (Some type) then number_json unit type n else number_as json_notation type n

-- the values of a field
abbrev pub values_in : AnyUnit → Option BaseType → Values → List ℕ
values_in unit type values = values_as json_notation (number_in unit) type values

-- ---- fields and messages

-- the name of a field, with its unit at the end
abbrev pub field_title : Bool → ℕ → MessageField → List ℕ
field_title utc message field =
    name_of true message field.number
    ++ suffix_of (end_of (row_by true message field.number)) (field_unit utc message field)

abbrev pub field_json : Bool → ℕ → MessageField → List ℕ
field_json utc message field =
    quoted (field_title utc message field) ++ codes ":"
    ++ values_in (field_unit utc message field) (base_type field.base) field.values

-- a text that is no longer than so many bytes; none if it is
abbrev pub text_within : ℕ → List ℕ → List ℕ
text_within most text = if nat_le (length text) most then text else []

-- a developer field with the name, the units and the type that its description gives. The Profile has names of at most 64 bytes and units
-- of 16: longer ones are left out, since they come with each value
abbrev pub described_json : Description → MessageDeveloperField → List ℕ
described_json d field =
    developer_key field.index field.number
    ++ (codes ",\"name\":" ++ (string_json (text_within 64 d.name)
    ++ (codes ",\"units\":" ++ (string_json (text_within 16 d.units)
    ++ (codes ",\"value\":" ++ (values_in d.unit (base_type d.base)
    (values_of (record { base = d.base; arch = field.arch; bytes = field.bytes }))
    ++ codes "}"))))))

abbrev pub developer_json_by : Option Description → MessageDeveloperField → List ℕ
developer_json_by None field = developer_json field
developer_json_by (Some d) field = described_json d field

-- the last description before its message counts
abbrev pub developer_json_in : List Description → ℕ → MessageDeveloperField → List ℕ
developer_json_in known number field =
    developer_json_by (described_in known number field.index field.number) field

-- the form, where these descriptions are known
abbrev pub profile_form : List Description → FileForm
profile_form known = json_form message_named field_json (developer_json_in known)

-- a whole file, with times as dates in UTC, or as numbers
unfoldable pub profile_json_of : Bool → FileValue → List ℕ
profile_json_of utc v = lines_of (profile_form (descriptions_of (messages_of v.items))) utc v

-- ---- what is looked up of a field

-- the row of the fields of this number
abbrev pub IsRowOf : ℕ → ℕ → Option (Bor (ℕ × Bor (List ℕ) × Bor (List ℕ) × Scale)) → Type 0
IsRowOf message number row = option_map (λ row. facts_of row.now) row ≡ row_by true message number

-- what is known of fields that were looked up is so
abbrev pub AreKnown : List (Option Found) → Type 0
AreKnown places =
    (at : ℕ) → IfSome (slice_index_or places at None) (λ found. IsRowOf found.message found.number found.row)
