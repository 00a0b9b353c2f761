-- What the subcommand `shift` makes of a file, and which faults it may report.
use Rattle.std.specs.Prelude.{◌≡◌, ℕ, List, Option, None, Result}
use Rattle.std.specs.Borrow.{Bor}
use Rattle.fit_grammar.specs.Format.File.{FileValue}
use Rattle.fit_shifting.specs.declared.bytes.ShiftBy.{ShiftBy}
use Rattle.fit_shifting.specs.declared.file.ShiftFault.{ShiftFault}
use Rattle.fit_shifting.specs.declared.file.ShiftFault.TheVariants as shifts
use Rattle.fit_shifting.specs.Shifted.{ShiftsTo}
use Rattle.fit_commands.specs.Reported.{ReportsRun}
use Rattle.fit_commands.specs.declared.fault.Fault.{Fault}
use Rattle.fit_commands.specs.declared.fault.Fault.TheVariants as faults

-- for a file whose times are not moved
abbrev pub fault_of_shift : ShiftFault → Fault
fault_of_shift (shifts.File fault) = faults.File fault
fault_of_shift shifts.NoTime = faults.NoTime
fault_of_shift (shifts.Time place) = faults.TimeTooFar place
fault_of_shift (shifts.Plain fault) = faults.Plain fault
fault_of_shift shifts.Memory = faults.NoMemory

-- the file of this name, which holds this, with its times moved so; or why they are not moved, or it was not opened or not read
abbrev pub ShiftsNamed : ShiftBy → Option (List ℕ) → Bor (List ℕ) → Result FileValue Fault → Type 0
ShiftsNamed by held name shifted =
    ReportsRun held name None None (λ why fault. fault ≡ fault_of_shift why) (ShiftsTo by) shifted
