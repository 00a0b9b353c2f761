-- What becomes of the bytes of a file by what becomes of the file: for `shift_read`.
use Rattle.std.proofs.Common.{◌≡◌, ℕ, List, map, true, Result, Ok, Err, IfOk, IfErr, OnOk}
use Rattle.std.specs.List.{AllByRecursion}
use Rattle.fit_grammar.specs.Format.File.{FileValue, FileOf}
use Rattle.fit_grammar.specs.Format.Message.{messages_of}
use Rattle.fit_grammar.specs.Calls.PlainForm.{IsPlain}
use Rattle.fit_shifting.specs.declared.bytes.ShiftBy.{ShiftBy}
use Rattle.fit_shifting.specs.declared.file.ShiftFault.{ShiftFault}
use Rattle.fit_shifting.specs.declared.file.ShiftFault.TheVariants as faults
use Rattle.fit_shifting.specs.declared.shift.Shift.{Shift}
use Rattle.fit_shifting.specs.Moved.{can_move, moved}
use Rattle.fit_shifting.specs.Shifted.{IsShiftOf, ShiftsTo}
use Rattle.fit_shifting.specs.Stuck.{IsShiftFault}

pub shifts_to : (by : ShiftBy) (bytes : List ℕ) (v : FileValue) (shift : Shift) (r : Result FileValue ShiftFault) → FileOf bytes v
    → IsShiftOf by v shift → IfOk r (λ shifted. shifted.frame ≡ v.frame)
    → IfOk r (λ shifted. messages_of shifted.items ≡ map (moved shift) (messages_of v.items))
    → OnOk r (AllByRecursion (λ m. can_move shift m ≡ true) (messages_of v.items))
    → IfOk r (λ shifted. AllByRecursion IsPlain shifted.items) → IfErr r (IsShiftFault bytes v shift) → ShiftsTo by bytes r
shifts_to by bytes v shift (Ok shifted) file is frame messages movable written_out refused =
    (v, file, shift, is, record { frame = frame; messages = messages; movable = movable; written_out = written_out })
shifts_to by bytes v shift (Err (faults.File fault)) file is frame messages movable written_out refused = absurd refused
shifts_to by bytes v shift (Err faults.NoTime) file is frame messages movable written_out refused = absurd refused
shifts_to by bytes v shift (Err (faults.Time place)) file is frame messages movable written_out refused = (v, file, shift, is, refused)
shifts_to by bytes v shift (Err (faults.Plain fault)) file is frame messages movable written_out refused = (v, file, shift, is, refused)
shifts_to by bytes v shift (Err faults.Memory) file is frame messages movable written_out refused = (v, file, shift, is, refused)
