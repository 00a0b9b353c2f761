-- The fields of a message, with the whole Profile and without it.
use Rattle.std.specs.Prelude.{ℕ, Bool, not, List, ◌∷◌, map, Option, ◌==◌, ◌&&◌, if◌then◌else◌}
use Rattle.std.specs.List.{filter}
use Rattle.std.specs.Option.{option_or}
use Rattle.fit_profile.specs.Facts.{FieldFacts, is_time, row_in}
use Rattle.fit_profile.specs.Known.{common_known, known_at}
use Rattle.fit_profile.specs.Table.{fields_at}

-- the row of the field with this number among these, or among those that every message has
abbrev pub row_or_common : List FieldFacts → ℕ → Option FieldFacts
row_or_common rows number = option_or (row_in rows number) (row_in common_known number)

-- the row of a field by the whole Profile, or by what is known without it
abbrev pub row_by : Bool → ℕ → ℕ → Option FieldFacts
row_by profile message number =
    row_or_common (if profile then fields_at message else known_at message) number

-- the numbers of the known fields: the columns of a table if no others are asked for
abbrev pub usual_at : ℕ → List ℕ
usual_at message = map (λ row. row.0) (known_at message)

-- the numbers of the known fields that hold times: the timestamp that every message has, and others
abbrev pub is_other_time : FieldFacts → Bool
is_other_time row = is_time row && not (row.0 == 253)

abbrev pub times_at : ℕ → List ℕ
times_at message = 253 ∷ map (λ row. row.0) (filter is_other_time (known_at message))
