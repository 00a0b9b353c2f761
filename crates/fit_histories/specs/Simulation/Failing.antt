-- A failure that is arranged comes.
use Rattle.std.specs.Prelude.{◌≡◌, ◌≤◌, ℕ, Bool, List, ◌∷◌, None}
use Rattle.fit_activity.specs.declared.recording.start.Start.{Start}
use Rattle.fit_activity.specs.Rides.Refusal.{start_refusal}
use Rattle.fit_recorder.specs.declared.fault.RecFault.TheVariants.{Device}
use Rattle.fit_recorder.specs.Calls.Counts.{start_calls}
use Rattle.fit_histories.specs.declared.command.Command.TheVariants as commands
use Rattle.fit_histories.specs.declared.event.Event.{Event}
use Rattle.fit_histories.specs.Histories.Table.{Outcome, Fault}
use Rattle.fit_histories.specs.Simulation.Following.{FollowsChoices}

-- over two empty files, a start of which one call is arranged to fail is answered by `Device`
abbrev pub FailsAsArranged : Type 0
FailsAsArranged =
    (checked : Bool) (choices : List ℕ) (fail begin : Event) (events : List Event) (k : ℕ)
    (start : Start) (first second : Outcome) (outcomes : List Outcome)
    → fail.command ≡ commands.Fail k → 1 ≤ k → k ≤ start_calls
    → begin.command ≡ commands.Start start → start_refusal start ≡ None
    → FollowsChoices checked choices (fail ∷ begin ∷ events) (first ∷ second ∷ outcomes)
    → second ≡ Fault Device
