-- The units of fields, as the Profile has them.
use Rattle.std.specs.Prelude.{◌≡◌, ℕ, ◌≤◌, Bool, true, false, Option, Some, None, List, [], slice_index_or}
use Rattle.fit_table.specs.declared.layout.Layout.{Layout}
use Rattle.fit_table.specs.declared.unit.Unit.{Unit as AnyUnit}
use Rattle.fit_table.specs.declared.unit.Unit.TheVariants.{Whole, Time, Date, Scaled, Stated}
use Rattle.fit_profile.specs.declared.scale.Scale.{Scale}
use Rattle.fit_profile.specs.declared.scale.Scale.TheVariants.{Time as InSeconds}
use Rattle.fit_profile.specs.Facts.{FieldFacts}
use Rattle.fit_profile.specs.Row.{row_by}

-- by the scale of the field's row; a field without one has whole numbers
abbrev pub scaled_unit : Scale → AnyUnit
scaled_unit InSeconds = Time
scaled_unit scale = Scaled scale

abbrev pub unit_of : Option FieldFacts → AnyUnit
unit_of None = Whole
unit_of (Some row) = scaled_unit row.3

abbrev pub unit_by : Bool → ℕ → ℕ → AnyUnit
unit_by profile message number = unit_of (row_by profile message number)

-- as they are in the file if `raw` is set; times are dates if `utc` is set
abbrev pub shown_by : Bool → Bool → AnyUnit → AnyUnit
shown_by raw true Time = Date
shown_by true utc unit = Whole
shown_by false utc unit = unit

abbrev pub unit_in : Layout → ℕ → AnyUnit
unit_in layout number = shown_by layout.raw layout.utc (unit_by layout.profile layout.message number)

-- the units of the fields with these numbers, from 0 on
abbrev pub AreUnits : Layout → List AnyUnit → Type 0
AreUnits layout units = (number : ℕ) → number ≤ 255
    → slice_index_or units number Whole ≡ unit_in layout number

-- what the name of a column ends with; `end` is how the Profile ends it
abbrev pub suffix_of : List ℕ → AnyUnit → List ℕ
suffix_of end Whole = []
suffix_of end Time = end
suffix_of end Date = []
suffix_of end (Scaled scale) = end
suffix_of end (Stated scale offset) = []

abbrev pub end_of : Option FieldFacts → List ℕ
end_of None = []
end_of (Some row) = row.2

abbrev pub suffix_in : Layout → ℕ → List ℕ
suffix_in layout number =
    suffix_of (end_of (row_by layout.profile layout.message number)) (unit_in layout number)
