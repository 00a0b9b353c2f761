-- What a row of the table states of a field.
use Rattle.std.specs.Prelude.{ℕ, Bool, true, false, List, [], ◌∷◌, length, map, Option, Some, None, nat_le, ◌&&◌, ◌==◌, if◌then◌else◌}
use Rattle.std.specs.Borrow.{Bor}
use Rattle.fit_profile.specs.declared.scale.Scale.{Scale}
use Rattle.fit_profile.specs.declared.scale.Scale.TheVariants.{Time}

-- the number, the name, the unit and the scale
abbrev pub FieldFacts : Type 0
FieldFacts = ℕ × List ℕ × List ℕ × Scale

-- what a row in src/ states
abbrev pub facts_of : ℕ × Bor (List ℕ) × Bor (List ℕ) × Scale → FieldFacts
facts_of row = (row.0, row.1.now, row.2.now, row.3)

abbrev pub field_rows : List (ℕ × Bor (List ℕ) × Bor (List ℕ) × Scale) → List FieldFacts
field_rows rows = map facts_of rows

-- the first row with this number
abbrev pub row_in : List FieldFacts → ℕ → Option FieldFacts
row_in [] number = None
row_in (row ∷ rows) number = if row.0 == number then Some row else row_in rows number

-- each name is short enough for a label of the shown text, at most 30 bytes
abbrev pub are_short : List FieldFacts → Bool
are_short [] = true
are_short (row ∷ rows) = nat_le (length row.1) 30 && are_short rows

-- whether it holds a time
abbrev pub is_time : FieldFacts → Bool
is_time (number, name, end, Time) = true
is_time row = false
