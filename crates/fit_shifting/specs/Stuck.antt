-- Why a file is refused: the first message with a time that cannot be moved.
use Rattle.std.specs.Prelude.{◌≡◌, ℕ, ◌+◌, Bool, false, not, List, [], ◌∷◌, if◌then◌else◌, Option, Some, None}
use Rattle.fit_grammar.specs.Format.Item.{item_size}
use Rattle.fit_grammar.specs.Format.File.{FileValue}
use Rattle.fit_grammar.specs.Calls.LentItem.{LentItem, DefinesHere, DataHere, item_lent, items_lent, message_here}
use Rattle.fit_grammar.specs.Calls.PlainForm.{StoodAt, IsPlainFaultOf}
use Rattle.fit_shifting.specs.declared.file.ShiftFault.{ShiftFault}
use Rattle.fit_shifting.specs.declared.file.ShiftFault.TheVariants.{Time, Plain, Memory}
use Rattle.fit_shifting.specs.declared.shift.Shift.{Shift}
use Rattle.fit_shifting.specs.Moved.{can_move}

-- whether the item is a message with a time that cannot be moved
abbrev pub is_stuck : Shift → LentItem → Bool
is_stuck shift (DefinesHere d) = false
is_stuck shift (DataHere m) = not (can_move shift (message_here m))

-- the place of the first one among the items that are written from this place on
abbrev pub stuck_after : Shift → ℕ → List LentItem → Option ℕ
stuck_after shift place [] = None
stuck_after shift place (item ∷ items) =
    if is_stuck shift item then Some place
    else stuck_after shift (place + item_size (item_lent item)) items

-- its place in the file as it is written, an offset in bytes from the front
abbrev pub stuck_at : Shift → FileValue → Option ℕ
stuck_at shift v = stuck_after shift v.frame.header_size (items_lent v.items)

-- it was at this place in the bytes that the file was read from
pub record IsStuck (bytes : List ℕ) (v : FileValue) (shift : Shift) (place : ℕ) : Type 0 where
  pub written : ℕ
  pub stuck : stuck_at shift v ≡ Some written
  pub stood : StoodAt bytes v written place

-- a fault of the file that these bytes are
abbrev pub IsShiftFault : List ℕ → FileValue → Shift → ShiftFault → Type 0
IsShiftFault bytes v shift (Time place) = IsStuck bytes v shift place
IsShiftFault bytes v shift (Plain fault) = IsPlainFaultOf bytes v fault
IsShiftFault bytes v shift Memory = Unit {0}
IsShiftFault bytes v shift _ = ⊥
