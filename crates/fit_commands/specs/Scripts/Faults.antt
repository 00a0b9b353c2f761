-- The program's faults for those of a script, and which faults each subcommand that runs one may report.
use Rattle.std.specs.Prelude.{◌≡◌, ◌⊎◌, ◌≤◌, ℕ, List, codes}
use Rattle.std.specs.Borrow.{Bor}
use Rattle.fit_disk.specs.declared.files.OpenFault.{OpenFault}
use Rattle.fit_files.specs.declared.fault.ReportFault.{ReportFault}
use Rattle.fit_scripts.specs.declared.script.fault.ReplayFault.{ReplayFault}
use Rattle.fit_scripts.specs.declared.script.fault.ReplayFault.TheVariants as replays
use Rattle.fit_runs.specs.declared.simulating.SimulateFault.{SimulateFault}
use Rattle.fit_runs.specs.declared.simulating.SimulateFault.TheVariants as simulations
use Rattle.fit_commands.specs.Faults.{fault_of_open, IsReportFault}
use Rattle.fit_commands.specs.declared.fault.Fault.{Fault}
use Rattle.fit_commands.specs.declared.fault.Fault.TheVariants as faults

-- for a script of this name that is not replayed
abbrev pub fault_of_replay : Bor (List ℕ) → ReplayFault → Fault
fault_of_replay name replays.NoText = faults.Read name
fault_of_replay name (replays.Script fault) = faults.Script fault
fault_of_replay name (replays.OnlySimulate line) = faults.OnlySimulate line

-- for a script of this name that was not simulated, or not all its lines were printed
abbrev pub IsSimulateFault : Bor (List ℕ) → SimulateFault → Fault → Type 0
IsSimulateFault name simulations.NoText reported = reported ≡ faults.Read name
IsSimulateFault name (simulations.Script fault) reported = reported ≡ faults.Script fault
IsSimulateFault name simulations.NoMemory reported = reported ≡ faults.NoMemory
IsSimulateFault name simulations.Output (faults.Write out) = out.now ≡ codes "-"
IsSimulateFault name simulations.Output _ = ⊥

-- of a script of this name: it was not opened or read, or it has a line that cannot be replayed
abbrev pub IsScriptReported : Bor (List ℕ) → Fault → Type 0
IsScriptReported script (faults.Open name) = name ≡ script
IsScriptReported script (faults.Read name) = name ≡ script
IsScriptReported script faults.TooLarge = Unit {0}
IsScriptReported script faults.NoMemory = Unit {0}
IsScriptReported script (faults.Script fault) = Unit {0}
IsScriptReported script (faults.OnlySimulate line) = Unit {0}
IsScriptReported script _ = ⊥

-- of replaying a script over a folder: one was not opened or read, a line cannot be replayed, a reply was not ok, or the output failed
abbrev pub IsReplayReported : Bor (List ℕ) → Bor (List ℕ) → Fault → Type 0
IsReplayReported script folder (faults.Open name) = (name ≡ script) ⊎ (name ≡ folder)
IsReplayReported script folder (faults.Read name) = name ≡ script
IsReplayReported script folder (faults.Write name) = name.now ≡ codes "-"
IsReplayReported script folder faults.TooLarge = Unit {0}
IsReplayReported script folder faults.NoMemory = Unit {0}
IsReplayReported script folder (faults.Script fault) = Unit {0}
IsReplayReported script folder (faults.OnlySimulate line) = Unit {0}
IsReplayReported script folder (faults.Refused count) = 1 ≤ count
IsReplayReported script folder _ = ⊥

-- of recording lines into a folder of this name: it was not opened, an answer was not ok, or the input or the output failed, whose
-- name is `-`
abbrev pub IsRecordReported : Bor (List ℕ) → Fault → Type 0
IsRecordReported folder reported =
    ((why : OpenFault) × (reported ≡ fault_of_open folder why))
    ⊎ ((count : ℕ) × (1 ≤ count) × (reported ≡ faults.Refused count))
    ⊎ ((name : Bor (List ℕ)) × (name.now ≡ codes "-") × (why : ReportFault)
    × IsReportFault name why reported)
