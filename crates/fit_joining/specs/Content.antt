-- The bytes of a message whose fields change.
use Rattle.std.specs.Prelude.{ℕ, Bool, List, [], ◌∷◌, Option, if◌then◌else◌}
use Rattle.fit_base.specs.declared.order.Arch.{Arch}
use Rattle.fit_base.specs.Number.{number}
use Rattle.fit_grammar.specs.declared.definition.FieldDefinition.{FieldDefinition}
use Rattle.fit_grammar.specs.Calls.ChangedContent.{content_with}
use Rattle.fit_grammar.specs.Calls.PlainForm.{time_bytes}
use Rattle.fit_grammar.specs.Format.Encoding.{two_bytes}
use Rattle.fit_joining.specs.declared.tally.Tally.{Tally}
use Rattle.fit_joining.specs.Makers.{index_in}
use Rattle.fit_joining.specs.Part.{is_distance, is_index, is_lap_number, further}

-- the four bytes of a distance, so much further
abbrev pub distance_changed : Tally → Arch → List ℕ → List ℕ
distance_changed t arch (a ∷ b ∷ c ∷ d ∷ []) =
    time_bytes arch (further t.begun_at (number arch (a ∷ b ∷ c ∷ d ∷ [])))
distance_changed t arch bytes = bytes

-- the two bytes of the number of a lap
abbrev pub lap_changed : Tally → Arch → List ℕ → List ℕ
lap_changed t arch (a ∷ b ∷ []) = two_bytes arch t.laps
lap_changed t arch bytes = bytes

-- the byte of a developer data index
abbrev pub index_changed : List (Option ℕ) → List ℕ → List ℕ
index_changed given (a ∷ []) = index_in given a ∷ []
index_changed given bytes = bytes

-- the bytes of a field that is a distance, the number of a lap, or a developer data index
abbrev pub bytes_changed : List (Option ℕ) → Tally → Arch → Bool → Bool → Bool → List ℕ → List ℕ
bytes_changed given t arch distance lap index bytes =
    if distance then distance_changed t arch bytes
    else if lap then lap_changed t arch bytes
    else if index then index_changed given bytes
    else bytes

abbrev pub field_changed : List (Option ℕ) → Tally → ℕ → Arch → FieldDefinition → List ℕ → List ℕ
field_changed given t message arch field bytes =
    bytes_changed given t arch (is_distance message field.number field.base)
    (is_lap_number message field.number field.base)
    (is_index message field.number field.base) bytes

-- the bytes of these fields, one after another, and what comes after them
abbrev pub content_changed : List (Option ℕ) → Tally → ℕ → Arch → List FieldDefinition → List ℕ
    → List ℕ
content_changed given t message arch fields content =
    content_with (field_changed given t message arch) fields content
