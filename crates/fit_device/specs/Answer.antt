-- The number that an answer has in C.
use Rattle.std.specs.Prelude.{◌≡◌, ◌⊎◌, ℕ, ◌+◌, [], ◌∷◌, take, Result, Ok, Err}
use Rattle.fit_activity.specs.Rides.Refusal.{refusal_code}
use Rattle.fit_disk.specs.State.{Contents}
use Rattle.fit_recorder.specs.Calls.FaultCode.{fault_code}
use Rattle.fit_recorder.specs.declared.fault.RecFault.{RecFault}
use Rattle.fit_recorder.specs.declared.fault.RecFault.TheVariants.{NothingRecorded, Refused}

-- what is refused by a rule has the number of the rule and 32
abbrev pub code_of_fault : RecFault → ℕ
code_of_fault (Refused refusal) = 32 + refusal_code refusal
code_of_fault fault = fault_code fault

abbrev pub code_of : {T : Type 0} → Result T RecFault → ℕ
code_of (Ok _) = 0
code_of (Err fault) = code_of_fault fault

-- the handle is none of a recorder
abbrev pub no_recorder : ℕ
no_recorder = 11

-- no sport has this number
abbrev pub no_sport : ℕ
no_sport = 12

-- a window is asked for
abbrev pub wants : ℕ
wants = 13

-- an erasing was cut off
abbrev pub erasing : ℕ
erasing = 14

-- An erasing was begun and not ended, or may have been: the journal has lost the first byte of its form, and the data file has bytes.
pub record IsErasing (contents : Contents) : Type 0 where
  pub forgotten : take 3 contents.in_journal ≡ 0 ∷ 0x52 ∷ 0x4A ∷ []
  pub has_data : contents.in_data ≡ [] → ⊥

-- the number of a fault of files with these contents: where an erasing was cut off, nothing is recorded, and the number says so
abbrev pub IsNumberOf : Contents → RecFault → ℕ → Type 0
IsNumberOf contents fault code =
    ((code ≡ erasing) × (fault ≡ NothingRecorded) × IsErasing contents)
    ⊎ ((code ≡ code_of_fault fault) × (fault ≡ NothingRecorded → IsErasing contents → ⊥))

abbrev pub IsCodeOf : {T : Type 0} → Contents → Result T RecFault → ℕ → Type 0
IsCodeOf contents (Ok _) code = code ≡ 0
IsCodeOf contents (Err fault) code = IsNumberOf contents fault code
