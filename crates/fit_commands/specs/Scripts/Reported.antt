-- What a subcommand that runs a script did.
use Rattle.std.specs.Prelude.{◌≡◌, ℕ, Bool, List, Option, Ok}
use Rattle.std.specs.Str.Lines.{lines}
use Rattle.fit_disk.specs.Story.{Story}
use Rattle.fit_histories.specs.declared.event.Event.{Event}
use Rattle.fit_runs.specs.Printed.ReplyLines.{AreReported}
use Rattle.fit_runs.specs.Rides.Turns.{Turn, Finishes}
use Rattle.fit_scripts.specs.Scripts.Script.{events_of}
use Rattle.fit_commands.specs.Reading.{IsRead}
use Rattle.fit_commands.specs.Reported.{PrintsNothing}
use Rattle.fit_commands.specs.declared.fault.Fault.{Fault}
use Rattle.fit_commands.specs.declared.fault.Fault.TheVariants as faults

-- they are the events of the script that a file holds
abbrev pub IsScriptOf : Option (List ℕ) → List Event → Type 0
IsScriptOf held events = (bytes : List ℕ) × IsRead held bytes × (events ≡ events_of 1 (lines bytes))

-- a line was printed for each event of a script, and so many replies were not ok
abbrev pub Replays : Option (List ℕ) → Option (List ℕ) → Option (List ℕ) → ℕ → Type 0
Replays held old new refused =
    (events : List Event) × IsScriptOf held events
    × AreReported events (λ replies. Unit {0}) refused old new

-- no line is printed, unless a reply was not ok or the output failed
abbrev pub PrintsNoLine : Option (List ℕ) → Option (List ℕ) → Fault → Type 0
PrintsNoLine old new (faults.Refused count) = Unit {0}
PrintsNoLine old new fault = PrintsNothing old new fault

-- the lines of some bytes were done, with a commit every so many seconds of the ride, and so many answers were not ok
abbrev pub RecordsLines : Option ℕ → Option (List ℕ) → Option (List ℕ) → ℕ → Type 0
RecordsLines every old new refused =
    (bytes : List ℕ) × (turns : List Turn) × (honest : Bool) × (before : Story) × (after : Story)
    × Finishes honest before after every bytes turns old new (Ok refused)
