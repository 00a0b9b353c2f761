-- The device fails only if that was arranged.
use Rattle.std.specs.Prelude.{Bool, true, false, IsTrue, ◌||◌}
use Rattle.fit_recorder.specs.declared.fault.RecFault.TheVariants.{Device}
use Rattle.fit_histories.specs.declared.command.Command.{Command}
use Rattle.fit_histories.specs.declared.command.Command.TheVariants as commands
use Rattle.fit_histories.specs.Histories.Table.{Outcome, Fault}

-- `cut`: a power cut was arranged since the power last came back; `fail`: a failure was, and no call was broken off after it
pub record Arranged : Type 0 where
  pub cut : Bool
  pub fail : Bool

abbrev pub nothing_arranged : Arranged
nothing_arranged = record { cut = false; fail = false }

-- the device failed in the call
abbrev pub is_device : Outcome → Bool
is_device (Fault Device) = true
is_device _ = false

-- it may fail only if that was arranged
abbrev pub MayFail : Arranged → Outcome → Type 0
MayFail arranged outcome = IsTrue (is_device outcome) → IsTrue (arranged.cut || arranged.fail)

-- after a call that was broken off no failure is arranged
abbrev pub broken_off : Arranged → Outcome → Arranged
broken_off arranged (Fault Device) = record arranged { fail = false }
broken_off arranged _ = arranged

-- what is arranged after a command
abbrev pub arranged_after : Arranged → Command → Outcome → Arranged
arranged_after arranged (commands.Fail k) outcome = record arranged { fail = true }
arranged_after arranged (commands.Cut k) outcome = record arranged { cut = true }
arranged_after arranged commands.Power outcome = nothing_arranged
arranged_after arranged _ outcome = broken_off arranged outcome
