-- What becomes of the bytes of a file whose times are moved.
use Rattle.std.specs.Prelude.{◌≡◌, ℕ, List, map, true, Some, None, Result, Ok, Err}
use Rattle.std.specs.List.{AllByRecursion}
use Rattle.fit_grammar.specs.Format.File.{FileValue, FileOf}
use Rattle.fit_grammar.specs.Format.Message.{messages_of}
use Rattle.fit_grammar.specs.Format.Refusal.{IsFaultOf}
use Rattle.fit_grammar.specs.Calls.PlainForm.{IsPlain}
use Rattle.fit_shifting.specs.declared.bytes.ShiftBy.{ShiftBy}
use Rattle.fit_shifting.specs.declared.bytes.ShiftBy.TheVariants.{Seconds, Start}
use Rattle.fit_shifting.specs.declared.file.ShiftFault.{ShiftFault}
use Rattle.fit_shifting.specs.declared.file.ShiftFault.TheVariants as faults
use Rattle.fit_shifting.specs.declared.shift.Shift.{Shift}
use Rattle.fit_shifting.specs.Moved.{can_move, moved, shift_between}
use Rattle.fit_shifting.specs.Start.{start_of}
use Rattle.fit_shifting.specs.Stuck.{IsShiftFault}

-- the shift of a file: the one that is asked for, or the one by which the ride begins at the time that is asked for
abbrev pub IsShiftOf : ShiftBy → FileValue → Shift → Type 0
IsShiftOf (Seconds asked) v shift = shift ≡ asked
IsShiftOf (Start to) v shift =
    (from : ℕ) × (start_of (messages_of v.items) ≡ Some from) × (shift ≡ shift_between from to)

-- a beginning is asked for, and the file has none
abbrev pub HasNoStart : ShiftBy → FileValue → Type 0
HasNoStart (Seconds asked) v = ⊥
HasNoStart (Start to) v = start_of (messages_of v.items) ≡ None

-- the file with its times moved, each of which can be
pub record IsShifted (shift : Shift) (v shifted : FileValue) : Type 0 where
  pub frame : shifted.frame ≡ v.frame
  pub messages : messages_of shifted.items ≡ map (moved shift) (messages_of v.items)
  pub movable : AllByRecursion (λ m. can_move shift m ≡ true) (messages_of v.items)
  pub written_out : AllByRecursion IsPlain shifted.items

-- the file of these bytes is moved; or why it is not
abbrev pub ShiftsTo : ShiftBy → List ℕ → Result FileValue ShiftFault → Type 0
ShiftsTo by bytes (Ok shifted) =
    (v : FileValue) × FileOf bytes v × (shift : Shift) × IsShiftOf by v shift
    × IsShifted shift v shifted
ShiftsTo by bytes (Err (faults.File fault)) = IsFaultOf bytes fault
ShiftsTo by bytes (Err faults.NoTime) = (v : FileValue) × FileOf bytes v × HasNoStart by v
ShiftsTo by bytes (Err fault) =
    (v : FileValue) × FileOf bytes v × (shift : Shift) × IsShiftOf by v shift
    × IsShiftFault bytes v shift fault
