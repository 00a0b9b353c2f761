-- The recorder that frozen numbers stand for. A flag is set where it is 1.
use Rattle.std.specs.Prelude.{◌≡◌, ◌⊎◌, ℕ, ◌≤◌, ◌==◌, Bool, true, List, map, take}
use Rattle.arrayvec.specs.ArrayVec.{ArrayVec}
use Rattle.fit_activity.specs.Rides.Frozen.{totals_in, ArePossibleTotals}
use Rattle.fit_activity.specs.Rides.Recording.{Recorded}
use Rattle.fit_activity.specs.Rides.Refusal.{has_stopped}
use Rattle.fit_activity.specs.Rides.RunningTotals.{AreTotals}
use Rattle.fit_disk.specs.Story.{Story}
use Rattle.fit_journal.specs.Frozen.{slots_in}
use Rattle.fit_journal.specs.Slots.{row_slots}
use Rattle.fit_journal.specs.Turn.{open_gates}
use Rattle.fit_recorder.specs.declared.frozen.FrozenDefinition.{FrozenDefinition}
use Rattle.fit_recorder.specs.declared.frozen.FrozenRecorder.{FrozenRecorder}
use Rattle.fit_recorder.specs.Private.State.{RecorderState, IsAt}

-- the bytes of a definition are the first so many
abbrev pub definition_bytes_in : FrozenDefinition → ArrayVec ℕ
definition_bytes_in f = record { items = take f.len f.bytes }

abbrev pub definitions_in : List FrozenDefinition → List (ArrayVec ℕ)
definitions_in frozen = map definition_bytes_in frozen

abbrev pub state_in : FrozenRecorder → RecorderState
state_in f = record {
  totals = totals_in f.totals;
  slots = definitions_in f.definitions;
  turn = f.turn;
  journal_slots = slots_in f.journal;
  page = take f.page_len f.page;
  len = f.len;
  checksums = record { file = f.checksum; stated = f.crc32 };
}

abbrev pub has_failed_in : FrozenRecorder → Bool
has_failed_in f = f.failed == 1

-- a recorder may have these numbers
pub record IsPossibleRecorder (f : FrozenRecorder) : Type 0 where
  pub totals : ArePossibleTotals f.totals
  pub journal : open_gates (slots_in f.journal) ≤ row_slots

-- `StandsAt` of a recorder with these numbers over a disk with this story
abbrev pub StandsFrozen : Bool → FrozenRecorder → Story → List Recorded → List Recorded → Type 0
StandsFrozen honest f story list committed = IsAt honest (state_in f) story list committed

-- and `GoesOn` of a recorder with this state
abbrev pub HasEndedAt : RecorderState → List Recorded → Type 0
HasEndedAt state list = AreTotals state.totals list × (has_stopped list ≡ true)

abbrev pub GoesOnAt : Bool → RecorderState → Bool → Story → Type 0
GoesOnAt honest state failed story =
    (failed ≡ true)
    ⊎ (((list : List Recorded) × HasEndedAt state list)
    ⊎ ((list : List Recorded) × (committed : List Recorded)
    × IsAt honest state story list committed))
