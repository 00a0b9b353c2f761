-- The name of a fault of a line of a script.
use Rattle.std.specs.Prelude.{ℕ, List, codes}
use Rattle.fit_scripts.specs.declared.script.fault.ScriptFaultKind.{ScriptFaultKind}
use Rattle.fit_scripts.specs.declared.script.fault.ScriptFaultKind.TheVariants.{UnknownWord, MissingWord, ExtraWord, BadNumber, UnknownKey, RepeatedKey, Memory}

abbrev pub script_fault_name : ScriptFaultKind → List ℕ
script_fault_name UnknownWord = codes "UnknownWord"
script_fault_name MissingWord = codes "MissingWord"
script_fault_name ExtraWord = codes "ExtraWord"
script_fault_name BadNumber = codes "BadNumber"
script_fault_name UnknownKey = codes "UnknownKey"
script_fault_name RepeatedKey = codes "RepeatedKey"
script_fault_name Memory = codes "Memory"
