-- The number of each fault.
use Rattle.std.specs.Prelude.{ℕ}
use Rattle.fit_scripts.specs.declared.script.fault.ReplayFault.{ReplayFault}
use Rattle.fit_scripts.specs.declared.script.fault.ReplayFault.TheVariants.{NoText, Script, OnlySimulate}
use Rattle.fit_scripts.specs.declared.script.fault.ScriptFaultKind.{ScriptFaultKind}
use Rattle.fit_scripts.specs.declared.script.fault.ScriptFaultKind.TheVariants.{UnknownWord, MissingWord, ExtraWord, BadNumber, UnknownKey, RepeatedKey, Memory}

-- of a fault of a line of a script
abbrev pub script_code : ScriptFaultKind → ℕ
script_code UnknownWord = 1
script_code MissingWord = 2
script_code ExtraWord = 3
script_code BadNumber = 4
script_code UnknownKey = 5
script_code RepeatedKey = 6
script_code Memory = 7

-- of a fault of bytes that cannot be replayed
abbrev pub replay_code : ReplayFault → ℕ
replay_code NoText = 1
replay_code (Script fault) = 2
replay_code (OnlySimulate line) = 3
