-- The lines that answer lines which cannot be done.
use Rattle.std.specs.Prelude.{ℕ, List, ◌++◌, codes, decimal}
use Rattle.fit_runs.specs.declared.recording.line_fault.LineFault.{LineFault}
use Rattle.fit_runs.specs.declared.recording.line_fault.LineFault.TheVariants.{Script, OnlySimulate, TooLong}
use Rattle.fit_scripts.specs.Scripts.FaultName.{script_fault_name}

abbrev pub fault_text : LineFault → List ℕ
fault_text (Script kind) = script_fault_name kind
fault_text OnlySimulate = codes "OnlySimulate"
fault_text TooLong = codes "TooLong"

-- the number of the line, the word `line`, and the fault
abbrev pub faulty_text : ℕ → LineFault → List ℕ
faulty_text number fault = decimal number ++ codes " line: " ++ fault_text fault
