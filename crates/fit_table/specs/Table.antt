-- A table: a first line with the names of the columns, and a line for each message.
use Rattle.std.specs.Prelude.{ℕ, ◌+◌, ℤ, Bool, true, false, List, [], ◌∷◌, ◌++◌, length, map, Option, Some, None, option_map, codes, ◌==◌, if◌then◌else◌}
use Rattle.fit_base.specs.declared.order.Arch.{Arch}
use Rattle.fit_base.specs.Base.{base_type}
use Rattle.fit_grammar.specs.Format.Message.{Message, MessageField}
use Rattle.fit_text.specs.Text.{named}
use Rattle.fit_profile.specs.Facts.{FieldFacts}
use Rattle.fit_profile.specs.Known.{known_named}
use Rattle.fit_profile.specs.Row.{row_by}
use Rattle.fit_profile.specs.Table.{message_named}
use Rattle.fit_columns.specs.declared.place.Place.{Place}
use Rattle.fit_columns.specs.Columns.{cell_in, found_in}
use Rattle.fit_columns.specs.Places.{cell_with, field_with, place_cell, place_field}
use Rattle.fit_table.specs.declared.layout.Layout.{Layout}
use Rattle.fit_table.specs.declared.layout.DeveloperColumns.{DeveloperColumns}
use Rattle.fit_table.specs.declared.layout.DeveloperColumns.TheVariants.{Without, All, Named}
use Rattle.fit_table.specs.declared.unit.Unit.{Unit as AnyUnit}
use Rattle.fit_table.specs.Unit.{unit_in, suffix_in}
use Rattle.fit_table.specs.Number.{unit_text}
use Rattle.fit_table.specs.Tokens.{Token, Text}
use Rattle.fit_table.specs.Cells.{field_tokens}
use Rattle.fit_table.specs.Described.{Description, descriptions_of}
use Rattle.fit_table.specs.Named.{named_cells, names_in, titles}

-- the end of a line
abbrev pub line_end : List ℕ
line_end = 13 ∷ 10 ∷ []

-- ---- the first line

-- the name of a field, by its row if it has one
abbrev pub name_by : Option FieldFacts → ℕ → List ℕ
name_by row number = named (option_map (λ row. row.1) row) (codes "field_") number

abbrev pub name_of : Bool → ℕ → ℕ → List ℕ
name_of profile message number = name_by (row_by profile message number) number

-- the name of a message in the same way
unfoldable pub title_of : Bool → ℕ → List ℕ
title_of profile number =
    named (if profile then message_named number else known_named number) (codes "message_") number

-- the name of a column: that of its field, and its unit
abbrev pub column_name : Layout → ℕ → List ℕ
column_name layout number =
    name_of layout.profile layout.message number ++ suffix_in layout number

abbrev pub names_from : Layout → List ℕ → List ℕ → List ℕ
names_from layout front [] = []
names_from layout front (number ∷ numbers) =
    front ++ (column_name layout number ++ names_from layout (codes ",") numbers)

-- the columns of developer fields that a layout names
abbrev pub chosen_names : DeveloperColumns → List (List ℕ)
chosen_names Without = []
chosen_names All = []
chosen_names (Named names) = map (λ name. name.now) names.now.items

-- whether each name that a file gives has a column, in its own table
abbrev pub takes_all : DeveloperColumns → Bool
takes_all Without = false
takes_all All = true
takes_all (Named names) = false

-- the text `front` begins each line; it is a first cell with its comma, or nothing. The names of developer fields follow
abbrev pub head_with : Layout → List (List ℕ) → List ℕ → List ℕ
head_with layout names front =
    front ++ (names_from layout [] layout.fields.now ++ (titles names ++ line_end))

abbrev pub head_of : Layout → List ℕ → List ℕ
head_of layout front = head_with layout (chosen_names layout.developer) front

-- ---- the other lines

-- a cell without a value; two quotation marks if it is alone, since an empty line is none
abbrev pub empty_of : Layout → List ℕ
empty_of layout = if length layout.fields.now == 1 then codes "\"\"" else []

-- a single whole number of at most 32 bits in its unit; with the Profile also what other fields hold
abbrev pub cell_of : Layout → ℕ → Option ℤ → MessageField → List Token
cell_of layout number (Some value) field =
    Text (unit_text (empty_of layout) (unit_in layout number) value) ∷ []
cell_of layout number None field =
    if layout.profile
    then field_tokens (empty_of layout) (unit_in layout number) (base_type field.base) field.values
    else Text (empty_of layout) ∷ []

-- the cells of the first fields of these numbers, with commas between them
abbrev pub cells_from : Layout → List ℕ → List ℕ → Message → List Token
cells_from layout front [] m = []
cells_from layout front (number ∷ numbers) m =
    Text front ∷ (cell_of layout number (cell_in number m.fields) (found_in number m.fields)
    ++ cells_from layout (codes ",") numbers m)

-- the line of the message in this place, with the cells of developer fields of these names
abbrev pub line_of : Layout → List Description → List (List ℕ) → List ℕ → ℕ → Message → List Token
line_of layout known names front place m =
    Text front ∷ (cells_from layout [] layout.fields.now m
    ++ (named_cells layout.raw known place names m.developer ++ Text line_end ∷ []))

abbrev pub line_if : Bool → List Token → List Token
line_if is line = if is then line else []

-- what each message with this number gives, of messages of which the first has this place
abbrev pub lines_by : (ℕ → Message → List Token) → ℕ → ℕ → List Message → List Token
lines_by line number place [] = []
lines_by line number place (m ∷ messages) =
    line_if (m.global == number) (line place m) ++ lines_by line number (place + 1) messages

-- the descriptions of a file, if a name is looked for among them
abbrev pub known_for : List (List ℕ) → List Message → List Description
known_for names messages = if length names == 0 then [] else descriptions_of messages

-- the lines of a file, with the developer fields that the layout names as its own descriptions have them
abbrev pub lines_of : Layout → List ℕ → List Message → List Token
lines_of layout front messages =
    lines_by (line_of layout (known_for (chosen_names layout.developer) messages)
    (chosen_names layout.developer) front) layout.message 0 messages

-- the whole table of a file, with a column for each name that these descriptions have
abbrev pub table_with : Layout → List Description → List Message → List Token
table_with layout known messages =
    Text (head_with layout (names_in known) [])
    ∷ lines_by (line_of layout known (names_in known) []) layout.message 0 messages

-- the whole table of a file
abbrev pub table_of : Layout → List Message → List Token
table_of layout messages =
    if takes_all layout.developer then table_with layout (descriptions_of messages) messages
    else Text (head_of layout []) ∷ lines_of layout [] messages

-- ---- the same cells, by the places of the values

abbrev pub cell_at : Layout → Arch → Option ℕ → List ℕ → Place → List Token
cell_at layout arch time content place =
    cell_of layout place.number (cell_with time place.number (place_cell place arch content))
    (field_with time place.number (place_field place arch content))

-- whether a column has the time of a compressed timestamp
abbrev pub is_time : Option ℕ → ℕ → Bool
is_time None number = false
is_time (Some time) number = 253 == number

-- what the field at a place holds
abbrev pub held_at : List ℕ → AnyUnit → Place → Arch → List ℕ → List Token
held_at empty unit place arch content =
    field_tokens empty unit (base_type place.base) (place_field place arch content).values

abbrev pub cells_at : Layout → Arch → Option ℕ → List ℕ → List ℕ → List Place → List Token
cells_at layout arch time content front [] = []
cells_at layout arch time content front (place ∷ places) =
    Text front ∷ (cell_at layout arch time content place
    ++ cells_at layout arch time content (codes ",") places)
