-- The fields of a sample, from the table in src/fields.rt (FIT profile, "record").
use Rattle.std.specs.Prelude.{ℕ, List, [], ◌∷◌, map, codes}
use Rattle.std.specs.Borrow.{Bor}
use Rattle.fit_base.specs.declared.base.BaseType.{BaseType}
use Rattle.fit_base.specs.declared.base.BaseType.TheVariants.{Sint8, Uint8, Uint16, Sint32, Uint32}
use Rattle.fit_activity.specs.declared.fields.TheConstants.{SAMPLE_FIELDS}

-- a row: the number of a field, its base type, and its key in a script
abbrev pub SampleField : Type 0
SampleField = ℕ × BaseType × List ℕ

-- a row in src/, and the rows of a table there
abbrev pub SourceRow : Type 0
SourceRow = ℕ × BaseType × Bor (List ℕ)

abbrev pub row_in : SourceRow → SampleField
row_in row = (row.0, row.1, row.2.now)

abbrev pub rows_of : List SourceRow → List SampleField
rows_of rows = map row_in rows

abbrev pub sample_rows : List SampleField
sample_rows = map (λ row. (row.0, row.1, row.2.now)) SAMPLE_FIELDS

-- the rows that the profile gives, with the keys of a script: position_lat, position_long, altitude, heart_rate, cadence, distance, speed,
-- power, temperature, enhanced_speed, enhanced_altitude
abbrev pub profile_rows : List SampleField
profile_rows =
    (0, Sint32, codes "lat") ∷ (1, Sint32, codes "long") ∷ (2, Uint16, codes "alt")
    ∷ (3, Uint8, codes "hr") ∷ (4, Uint8, codes "cad") ∷ (5, Uint32, codes "dist")
    ∷ (6, Uint16, codes "speed") ∷ (7, Uint16, codes "power") ∷ (13, Sint8, codes "temp")
    ∷ (73, Uint32, codes "espeed") ∷ (78, Uint32, codes "ealt") ∷ []
