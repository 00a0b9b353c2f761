-- The bytes of a message whose times are moved.
use Rattle.std.specs.Prelude.{ℕ, ◌%◌, Bool, true, Option, Some, None, List, [], ◌∷◌, ◌++◌, length, ◌==◌, ◌&&◌, if◌then◌else◌}
use Rattle.fit_base.specs.declared.order.Arch.{Arch}
use Rattle.fit_base.specs.Number.{number}
use Rattle.fit_grammar.specs.declared.definition.FieldDefinition.{FieldDefinition}
use Rattle.fit_grammar.specs.Calls.ChangedContent.{content_with}
use Rattle.fit_grammar.specs.Calls.PlainForm.{time_bytes}
use Rattle.fit_shifting.specs.declared.shift.Shift.{Shift}
use Rattle.fit_shifting.specs.Times.{holds_time}
use Rattle.fit_shifting.specs.Moved.{can_move_time, moved_time}

-- the numbers of four bytes each, one after another
abbrev pub times_of : Arch → List ℕ → List ℕ
times_of arch (a ∷ b ∷ c ∷ d ∷ bytes) = number arch (a ∷ b ∷ c ∷ d ∷ []) ∷ times_of arch bytes
times_of arch bytes = []

-- times of four bytes, one after another; what is left of them stays
abbrev pub times_moved : Shift → Arch → List ℕ → List ℕ
times_moved shift arch (a ∷ b ∷ c ∷ d ∷ bytes) =
    time_bytes arch (moved_time shift (number arch (a ∷ b ∷ c ∷ d ∷ [])))
    ++ times_moved shift arch bytes
times_moved shift arch bytes = bytes

-- the bytes of a field
abbrev pub field_moved : Shift → ℕ → Arch → FieldDefinition → List ℕ → List ℕ
field_moved shift message arch field bytes =
    if holds_time message field.number field.base && (length bytes % 4 == 0)
    then times_moved shift arch bytes else bytes

-- the bytes of these fields, one after another, and what comes after them
abbrev pub content_moved : Shift → ℕ → Arch → List FieldDefinition → List ℕ → List ℕ
content_moved shift message arch fields content =
    content_with (field_moved shift message arch) fields content

-- the time of a compressed timestamp, if there is one
abbrev pub can_move_compressed : Shift → Option ℕ → Bool
can_move_compressed shift None = true
can_move_compressed shift (Some time) = can_move_time shift time
