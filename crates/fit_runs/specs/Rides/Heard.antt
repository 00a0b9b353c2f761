-- The lines of bytes that come one by one.
use Rattle.std.specs.Prelude.{◌≡◌, ℕ, ◌-◌, ◌<◌, Bool, true, false, List, [], ◌∷◌, ◌++◌, length, take, slice_index_or, ◌==◌, if◌then◌else◌}
use Rattle.fit_runs.specs.declared.recording.held.Held.{Held}

-- a line without the carriage return at its end
abbrev pub without_return : List ℕ → List ℕ
without_return line =
    if slice_index_or line (length line - 1) 0 == 13 then take (length line - 1) line else line

-- a line that has ended loses its carriage return
abbrev pub line_of : Bool → List ℕ → List ℕ
line_of true line = without_return line
line_of false line = line

-- the lines that have ended, and the bytes after the last of them
pub record Heard : Type 0 where
  pub ended : List (List ℕ)
  pub held : List ℕ

-- a newline ends a line
abbrev pub after_byte : Heard → ℕ → Heard
after_byte heard byte =
    if byte == 10 then record { ended = heard.ended ++ line_of true heard.held ∷ []; held = [] }
    else record { ended = heard.ended; held = heard.held ++ byte ∷ [] }

abbrev pub after_bytes : Heard → List ℕ → Heard
after_bytes heard [] = heard
after_bytes heard (byte ∷ bytes) = after_bytes (after_byte heard byte) bytes

abbrev pub lines_heard_in : List ℕ → Heard
lines_heard_in bytes = after_bytes (record { ended = []; held = [] }) bytes

-- the last line may have no newline
abbrev pub last_line : List ℕ → List (List ℕ)
last_line [] = []
last_line (byte ∷ bytes) = (byte ∷ bytes) ∷ []

-- the lines of some bytes
abbrev pub lines_in : List ℕ → List (List ℕ)
lines_in bytes = (lines_heard_in bytes).ended ++ last_line (lines_heard_in bytes).held

-- these bytes of a line are kept; or it has more than are kept
pub record IsHeld (line : List ℕ) (held : Held) : Type 0 where
  pub kept : held.is_long ≡ false → held.bytes.items ≡ line
  pub long : held.is_long ≡ true → 4097 < length line
