-- What moving the times of a file in memory leaves and returns.
use Rattle.std.specs.Prelude.{◌≡◌, ℕ, suc, ◌<◌, min, ℤ, pos, negsuc, List, length, None}
use Rattle.fit_grammar.specs.Format.Encoding.{encoded}
use Rattle.fit_grammar.specs.Format.File.{FileValue, FileOf}
use Rattle.fit_grammar.specs.Calls.PlainForm.{plain_of}
use Rattle.fit_shifting.specs.declared.bytes.ShiftBy.{ShiftBy}
use Rattle.fit_shifting.specs.declared.shift.Shift.{Shift}
use Rattle.fit_shifting.specs.declared.shift.Shift.TheVariants.{Later, Earlier}
use Rattle.fit_shifting.specs.Shifted.{IsShiftOf, HasNoStart, IsShifted}
use Rattle.fit_shifting.specs.Stuck.{stuck_at, IsStuck}

-- later by so many seconds, or earlier; no time can be moved by 4,294,967,295 or more
abbrev pub shift_of : ℤ → Shift
shift_of (pos seconds) = Later (min seconds 0xFFFFFFFF)
shift_of (negsuc seconds) = Earlier (min (suc seconds) 0xFFFFFFFF)

-- the bytes are a file, and `shifted` is what it is written as with its times moved so
pub record IsShiftedOf (by : ShiftBy) (bytes shifted : List ℕ) : Type 0 where
  pub file : FileValue
  pub is : FileOf bytes file
  pub shift : Shift
  pub shift_is : IsShiftOf by file shift
  pub new : FileValue
  pub moved : IsShifted shift file new
  pub shifted_is : shifted ≡ encoded new

-- the bytes are a file whose times can be moved so. It then has as many bytes as its plain form: so many, more than there is room for.
pub record NeedsRoomToShift (by : ShiftBy) (bytes : List ℕ) (room needed : ℕ) : Type 0 where
  pub file : FileValue
  pub is : FileOf bytes file
  pub shift : Shift
  pub shift_is : IsShiftOf by file shift
  pub movable : stuck_at shift file ≡ None
  pub needed_is : needed ≡ length (encoded (plain_of file))
  pub short : room < needed

-- the bytes are a file without the beginning that is asked for
pub record HasNoTime (by : ShiftBy) (bytes : List ℕ) : Type 0 where
  pub file : FileValue
  pub is : FileOf bytes file
  pub none : HasNoStart by file

-- the bytes are a file; the message at this place is the first with a time that cannot be moved so
pub record HasTimeTooFar (by : ShiftBy) (bytes : List ℕ) (place : ℕ) : Type 0 where
  pub file : FileValue
  pub is : FileOf bytes file
  pub shift : Shift
  pub shift_is : IsShiftOf by file shift
  pub stuck : IsStuck bytes file shift place
