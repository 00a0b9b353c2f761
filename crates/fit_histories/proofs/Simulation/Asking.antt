-- A command that arranges no failure: what it does to the calls and the choice bytes of a simulated disk.
use Rattle.std.proofs.Common.{◌≡◌, ℕ, List, refl}
use Rattle.fit_disk.specs.Counts.{Counts, Schedule}
use Rattle.fit_disk.specs.Story.{Story}
use Rattle.fit_histories.specs.declared.command.Command.{Command}
use Rattle.fit_histories.specs.declared.command.Command.TheVariants as commands
use Rattle.fit_histories.specs.declared.reply.Reply.{Reply}
use Rattle.fit_histories.specs.Simulation.Arranging.{Moves}
use Rattle.fit_histories.specs.Simulation.Choices.{takes, IsLeftBy}
use Rattle.fit_histories.specs.Rides.Left.{LeftBy}
use Rattle.fit_histories.specs.Rides.Standing.{IsCounted}

module _ (reply : Reply) (old new : Counts) (schedule new_schedule : Schedule) (choices : List ℕ) (files later : Story) (planned : new_schedule ≡ schedule) where
  pub asks : (command : Command) → IsCounted command reply old new → ((k : ℕ) → command ≡ commands.Fail k → ⊥) → ((k : ℕ) → command ≡ commands.Cut k → ⊥) → (command ≡ commands.Power → ⊥)
      → LeftBy command reply files later
      → Moves command reply old schedule new new_schedule × (0 ≡ takes command choices files.now) × IsLeftBy command choices reply files later
  asks (commands.Start start) counted fail cut power left = ((counted, planned), refl, left)
  asks (commands.Entry entry) counted fail cut power left = ((counted, planned), refl, left)
  asks commands.Commit counted fail cut power left = ((counted, planned), refl, left)
  asks commands.Restart counted fail cut power left = ((counted, planned), refl, left)
  asks commands.Recover counted fail cut power left = ((counted, planned), refl, left)
  asks commands.Reopen counted fail cut power left = ((counted, planned), refl, left)
  asks commands.Erase counted fail cut power left = ((counted, planned), refl, left)
  asks (commands.Fail k) counted fail cut power left = absurd (fail k refl)
  asks (commands.Cut k) counted fail cut power left = absurd (cut k refl)
  asks commands.Power counted fail cut power left = absurd (power refl)
