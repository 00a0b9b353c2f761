-- What is known of the numbers of a recovery by windows that asks for one.
use Rattle.std.specs.Prelude.{◌≡◌, ◌==◌, ◌+◌, ◌-◌, min, ℕ, List, [], ◌∷◌, if◌then◌else◌}
use Rattle.fit_disk.specs.State.{seen_in}
use Rattle.fit_disk.specs.declared.disk.Which.TheVariants.{Data, Journal}
use Rattle.fit_disk.specs.Story.{Story}
use Rattle.fit_plan.specs.Carried.{number_of}
use Rattle.fit_recorder.specs.Files.Limits.{header_length}
use Rattle.fit_recorder.specs.Files.Settled.{IsSettled}
use Rattle.fit_recorder.specs.Calls.FrozenRecovery.{ReadsOnIn}
use Rattle.fit_recorder.specs.declared.recovery.frozen.FrozenRecovery.{FrozenRecovery}
use Rattle.fit_device.specs.Seal.{recovery_seal}

-- the bytes "fitw", low byte first
abbrev pub recovery_mark : ℕ
recovery_mark = 0x77746966

abbrev pub asked_numbers : (data_size journal_size at file phase count : ℕ) → List ℕ
asked_numbers data_size journal_size at file phase count =
    data_size ∷ journal_size ∷ at ∷ file ∷ phase ∷ count ∷ []

abbrev pub IsAsking : ℕ → ℕ → FrozenRecovery → List ℕ → Type 0
IsAsking mark seal reading asked = (mark ≡ recovery_mark) × (seal ≡ recovery_seal reading asked)

-- A recovery by windows has two phases: it finds what is committed in the journal, and then it reads the body of the data file.
abbrev pub finding_phase : ℕ
finding_phase = 1

-- the number of the file that is asked for
abbrev pub file_in_phase : ℕ → ℕ
file_in_phase phase = if phase == finding_phase then number_of Journal else number_of Data

-- in the first phase both files are at rest; in the second the recovery reads on over them
abbrev pub ReadsBy : ℕ → FrozenRecovery → Story → Type 0
ReadsBy phase reading story =
    (phase ≡ finding_phase → IsSettled (seen_in story.now) story)
    × ((phase ≡ finding_phase → ⊥) → ReadsOnIn reading story)

-- which window is asked for: in the first phase the start of the journal, or all of it; in the second what follows in the body
pub record IsPlaced (reading : FrozenRecovery) (journal_size at file phase count : ℕ) : Type 0 where
  pub finds : phase ≡ finding_phase
      → (file ≡ number_of Journal) × (at ≡ 0) × (count ≡ min 512 journal_size)
  pub reads : (phase ≡ finding_phase → ⊥)
      → (file ≡ number_of Data) × (at ≡ header_length + reading.at)
      × (count ≡ min 512 (reading.len - reading.at))
