-- Numbers that carry the mark and the check code of a recorder, and what is then known of them.
use Rattle.std.specs.Prelude.{◌≡◌, ℕ, true, false}
use Rattle.fit_disk.specs.Story.{Story}
use Rattle.fit_recorder.specs.declared.frozen.FrozenRecorder.{FrozenRecorder}
use Rattle.fit_recorder.specs.Calls.Frozen.{state_in, has_failed_in, IsPossibleRecorder, GoesOnAt}
use Rattle.fit_device.specs.Seal.{seal_of}

-- the bytes "fitr", low byte first
abbrev pub recorder_mark : ℕ
recorder_mark = 0x72746966

abbrev pub IsSealed : ℕ → ℕ → FrozenRecorder → ℕ → Type 0
IsSealed mark seal recorder data_size = (mark ≡ recorder_mark) × (seal ≡ seal_of recorder data_size)

-- a recorder has these numbers, of which no call failed, and goes on
pub record GoesOnIn (recorder : FrozenRecorder) (story : Story) : Type 0 where
  pub possible : IsPossibleRecorder recorder
  pub going : has_failed_in recorder ≡ false
  pub goes_on : GoesOnAt true (state_in recorder) (has_failed_in recorder) story
