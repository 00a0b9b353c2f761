-- The name of each fault.
use Rattle.std.specs.Prelude.{ℕ, List, ◌++◌, codes}
use Rattle.fit_activity.specs.Rides.RefusalName.{refusal_name}
use Rattle.fit_recorder.specs.declared.fault.RecFault.{RecFault}
use Rattle.fit_recorder.specs.declared.fault.RecFault.TheVariants.{NotEmpty, Refused, Full, JournalFull, Device, Failed, NothingRecorded, Damaged}

abbrev pub fault_name : RecFault → List ℕ
fault_name NotEmpty = codes "NotEmpty"
fault_name (Refused refusal) = codes "Refused(" ++ refusal_name refusal ++ codes ")"
fault_name Full = codes "Full"
fault_name JournalFull = codes "JournalFull"
fault_name Device = codes "Device"
fault_name Failed = codes "Failed"
fault_name NothingRecorded = codes "NothingRecorded"
fault_name Damaged = codes "Damaged"
