-- The number of each fault.
use Rattle.std.specs.Prelude.{ℕ}
use Rattle.fit_recorder.specs.declared.fault.RecFault.{RecFault}
use Rattle.fit_recorder.specs.declared.fault.RecFault.TheVariants.{NotEmpty, Refused, Full, JournalFull, Device, Failed, NothingRecorded, Damaged}

abbrev pub fault_code : RecFault → ℕ
fault_code NotEmpty = 1
fault_code (Refused refusal) = 2
fault_code Full = 3
fault_code JournalFull = 4
fault_code Device = 5
fault_code Failed = 6
fault_code NothingRecorded = 7
fault_code Damaged = 8
