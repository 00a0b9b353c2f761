-- Columns of developer fields, each by the name that its description gives it.
use Rattle.std.specs.Prelude.{ℕ, Bool, not, List, [], ◌∷◌, ◌++◌, length, map, Option, Some, None, bytes_eq, codes, ◌==◌, ◌&&◌, nat_lt, if◌then◌else◌}
use Rattle.std.specs.List.{list_any}
use Rattle.fit_base.specs.Base.{base_type}
use Rattle.fit_base.specs.Value.{Values, Numbers, values_of}
use Rattle.fit_grammar.specs.Format.Message.{MessageDeveloperField}
use Rattle.fit_table.specs.declared.unit.Unit.{Unit as AnyUnit}
use Rattle.fit_table.specs.declared.unit.Unit.TheVariants.{Whole}
use Rattle.fit_table.specs.Cells.{string_cell, field_tokens}
use Rattle.fit_table.specs.Described.{Description, described_in}
use Rattle.fit_table.specs.Tokens.{Token, Text}

-- ---- names

-- a name that is not among the others, of which there are no more than 128
abbrev pub is_new : List (List ℕ) → List ℕ → Bool
is_new names name =
    not (length name == 0)
    && (nat_lt (length names) 128 && not (list_any (bytes_eq name) names))

abbrev pub named_after : List (List ℕ) → Description → List (List ℕ)
named_after names d = if is_new names d.name then names ++ d.name ∷ [] else names

abbrev pub names_after : List (List ℕ) → List Description → List (List ℕ)
names_after names [] = names
names_after names (d ∷ known) = names_after (named_after names d) known

-- the names of descriptions, each once
abbrev pub names_in : List Description → List (List ℕ)
names_in known = names_after [] known

-- the columns' names in the first line, each after a comma
abbrev pub titles : List (List ℕ) → List ℕ
titles [] = []
titles (name ∷ names) = codes "," ++ (string_cell [] name ++ titles names)

-- ---- values

-- a field as it is read: its base type byte, the unit of its numbers and its values
pub record ReadField : Type 0 where
  pub base : ℕ
  pub unit : AnyUnit
  pub values : Values

abbrev pub read_by : Description → MessageDeveloperField → ReadField
read_by d field =
    record {
      base = d.base;
      unit = d.unit;
      values = values_of (record { base = d.base; arch = field.arch; bytes = field.bytes });
    }

abbrev pub read_if : Option Description → List ℕ → MessageDeveloperField → ReadField → ReadField
read_if None name field other = other
read_if (Some d) name field other = if bytes_eq d.name name then read_by d field else other

-- the first field whose description gives it this name; one without values if there is none
abbrev pub read_in : List (Option Description) → List ℕ → List MessageDeveloperField → ReadField
read_in (told ∷ others) name (field ∷ fields) = read_if told name field (read_in others name fields)
read_in _ name _ = record { base = 0; unit = Whole; values = Numbers [] }

-- the descriptions of a message's fields
abbrev pub told_in : List Description → ℕ → List MessageDeveloperField → List (Option Description)
told_in known place fields = map (λ field. described_in known place field.index field.number) fields

-- its numbers are those of the file if `raw` is set
abbrev pub unit_if : Bool → AnyUnit → AnyUnit
unit_if raw unit = if raw then Whole else unit

abbrev pub read_cell : Bool → ReadField → List Token
read_cell raw read = field_tokens [] (unit_if raw read.unit) (base_type read.base) read.values

-- the cells of these names, each after a comma
abbrev pub cells_by : Bool → List (Option Description) → List (List ℕ)
    → List MessageDeveloperField → List Token
cells_by raw told [] fields = []
cells_by raw told (name ∷ names) fields =
    Text (codes ",") ∷ (read_cell raw (read_in told name fields) ++ cells_by raw told names fields)

abbrev pub named_cells : Bool → List Description → ℕ → List (List ℕ)
    → List MessageDeveloperField → List Token
named_cells raw known place names fields = cells_by raw (told_in known place fields) names fields
