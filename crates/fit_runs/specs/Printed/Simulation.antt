-- The result of running a script over a disk in memory.
use Rattle.std.specs.Prelude.{◌≡◌, ℕ, Bool, List, All, map, Option, Result, Ok, Err}
use Rattle.std.specs.Io.KnownBytes.{Appends}
use Rattle.fit_grammar.specs.Calls.Output.{AppendsBeginning}
use Rattle.std.specs.Str.{IsUtf8}
use Rattle.std.specs.Str.Lines.{lines}
use Rattle.fit_histories.specs.declared.event.Event.{Event}
use Rattle.fit_runs.specs.declared.simulating.SimulateFault.{SimulateFault}
use Rattle.fit_runs.specs.declared.simulating.SimulateFault.TheVariants as faults
use Rattle.fit_histories.specs.Histories.Table.{Outcome}
use Rattle.fit_runs.specs.Printed.ReplyLines.{lines_text}
use Rattle.fit_histories.specs.Rides.Standing.{reply_in}
use Rattle.fit_scripts.specs.Scripts.Faults.{IsScriptFaultOf}
use Rattle.fit_scripts.specs.Scripts.Script.{IsLine, events_of}
use Rattle.fit_histories.specs.Simulation.Following.{FollowsChoices}

-- A history of these events over two empty files, in which these bytes decide what each power cut leaves; `Printed` holds of the text with
-- a line for each answer.
pub record IsPrinted (checked : Bool) (choices : List ℕ) (events : List Event)
    (Printed : List ℕ → Type 0) : Type 0 where
  pub outcomes : List Outcome
  pub follows : FollowsChoices checked choices events outcomes
  pub printed : Printed (lines_text events (map reply_in outcomes))

-- The bytes are a script, and answers that may come to its events were printed, or a prefix of them and the output failed; or they are
-- not a script, or memory was refused, and nothing was written.
abbrev pub Simulates : {T : Type 0} → Bool → List ℕ → Option (List ℕ) → Option (List ℕ) → List ℕ
    → Result T SimulateFault → Type 0
Simulates checked choices old new bytes (Ok done) =
    All IsLine (lines bytes) × IsPrinted checked choices (events_of 1 (lines bytes)) (Appends old new)
Simulates checked choices old new bytes (Err faults.NoText) = (¬ (IsUtf8 bytes)) × (new ≡ old)
Simulates checked choices old new bytes (Err (faults.Script fault)) =
    IsScriptFaultOf (lines bytes) fault × (new ≡ old)
Simulates checked choices old new bytes (Err faults.NoMemory) = All IsLine (lines bytes) × (new ≡ old)
Simulates checked choices old new bytes (Err faults.Output) =
    All IsLine (lines bytes)
    × IsPrinted checked choices (events_of 1 (lines bytes)) (AppendsBeginning old new)

-- the number of the fault
abbrev pub simulate_code : SimulateFault → ℕ
simulate_code faults.NoText = 1
simulate_code (faults.Script fault) = 2
simulate_code faults.NoMemory = 3
simulate_code faults.Output = 4
