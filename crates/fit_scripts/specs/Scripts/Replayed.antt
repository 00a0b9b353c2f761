-- Which events of a script can be replayed, and the fault of bytes that cannot.
use Rattle.std.specs.Prelude.{◌≡◌, ℕ, false, List, [], ◌∷◌, All, Option, Some, None, if◌then◌else◌}
use Rattle.std.specs.Str.{IsUtf8}
use Rattle.std.specs.Str.Lines.{lines}
use Rattle.fit_histories.specs.declared.event.Event.{Event}
use Rattle.fit_histories.specs.Commands.{is_simulated}
use Rattle.fit_scripts.specs.declared.script.fault.ReplayFault.{ReplayFault}
use Rattle.fit_scripts.specs.declared.script.fault.ReplayFault.TheVariants as faults
use Rattle.fit_scripts.specs.Scripts.Faults.{IsScriptFaultOf}
use Rattle.fit_scripts.specs.Scripts.Script.{IsLine, events_of}

abbrev pub IsReplayed : Event → Type 0
IsReplayed event = is_simulated event.command ≡ false

-- the line of the first event that only `simulate` runs
abbrev pub first_simulated : List Event → Option ℕ
first_simulated [] = None
first_simulated (event ∷ events) =
    if is_simulated event.command then Some event.line else first_simulated events

-- why bytes cannot be replayed: they are not UTF-8, a line is wrong or memory was refused, or only `simulate` runs an event
abbrev pub IsReplayFault : List ℕ → ReplayFault → Type 0
IsReplayFault bytes faults.NoText = ¬ (IsUtf8 bytes)
IsReplayFault bytes (faults.Script fault) = IsScriptFaultOf (lines bytes) fault
IsReplayFault bytes (faults.OnlySimulate line) =
    All IsLine (lines bytes) × (first_simulated (events_of 1 (lines bytes)) ≡ Some line)
