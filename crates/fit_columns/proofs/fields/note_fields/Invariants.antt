use Rattle.std.proofs.Common.{◌≡◌, ◌<◌, ℕ, max, length, get_or}
use Rattle.fit_columns.specs.Fields.{held_by}
use Rattle.fit_columns.proofs.fields.note_fields.Given as goal

abbrev pub invariant-loop-left : goal.invariant-loop-left
invariant-loop-left l =
    (code : ℕ) → code < length l.initial.found
    → max (get_or l.found code 0) (held_by code l.left) ≡ max (get_or l.initial.found code 0) (held_by code l.fields)

abbrev pub decreases-loop-left : goal.decreases-loop-left
decreases-loop-left l = length l.left
