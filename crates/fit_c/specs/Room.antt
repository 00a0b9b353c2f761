-- The bytes that were taken for a caller's buffer.
use Rattle.std.specs.Prelude.{ℕ, List, ◌∷◌, Option, Some}
use Rattle.fit_c.specs.declared.room.Room.{Room}

-- The name of the buffer comes first, so the caller of a function over any sink can identify it.
abbrev pub held_by : Room → Option (List ℕ)
held_by room = Some (room.bytes.ghost_name ∷ room.tape.bytes)
