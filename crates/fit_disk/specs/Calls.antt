-- What each call of an honest disk does to its story.
use Rattle.std.specs.Prelude.{◌≡◌, ◌⊎◌, ℕ, ◌-◌, min, true, List, length, take, drop, Result, OnOk, OnErr}
use Rattle.fit_disk.specs.declared.disk.Which.{Which}
use Rattle.fit_disk.specs.Changes.{after_write, after_cut, after_sync}
use Rattle.fit_disk.specs.Content.{Torn, PartlyCut}
use Rattle.fit_disk.specs.Stored.{write_begun, cut_begun}
use Rattle.fit_disk.specs.State.{State, file_of, seen_in, BothLeft}
use Rattle.fit_disk.specs.Story.{Story, then_file, seen_of}

-- as many bytes as both the buffer and the file have from that place on, and these bytes
pub record ReadsAt (seen : List ℕ) (at room : ℕ) (buffer : List ℕ) (count : ℕ) : Type 0 where
  pub all : count ≡ min room (length seen - at)
  pub bytes : take count buffer ≡ take count (drop at seen)

-- a part of the write was done: reads give a content that this may have made
abbrev pub PartlyWrote : Which → ℕ → ℕ → Story → Story → Type 0
PartlyWrote which at count old new =
    (now : List ℕ) × Torn at count (seen_of which old) now
    × (new ≡ then_file which (write_begun at count now (file_of which old.now)) old)

-- either all of the bytes were written, or the write failed before it began or in part
pub record Wrote {T E : Type 0} (which : Which) (at : ℕ) (bytes : List ℕ) (result : Result T E)
    (old new : Story) : Type 0 where
  pub ok : OnOk result (new ≡ after_write true which at bytes old)
  pub err : OnErr result ((new ≡ old) ⊎ PartlyWrote which at (length bytes) old new)

-- a part of the cut was done
abbrev pub PartlyShortened : Which → ℕ → Story → Story → Type 0
PartlyShortened which len old new =
    (now : List ℕ) × PartlyCut len (seen_of which old) now
    × (new ≡ then_file which (cut_begun len now (file_of which old.now)) old)

-- either the file was cut to the length, or the cut failed before it began or in part
pub record Shortened {T E : Type 0} (which : Which) (len : ℕ) (result : Result T E)
    (old new : Story) : Type 0 where
  pub ok : OnOk result (new ≡ after_cut true which len old)
  pub err : OnErr result ((new ≡ old) ⊎ PartlyShortened which len old new)

-- a sync keeps all that reads give of the file; a failed sync keeps nothing new and loses nothing
pub record Synced {T E : Type 0} (which : Which) (result : Result T E)
    (old new : Story) : Type 0 where
  pub ok : OnOk result (new ≡ after_sync which old)
  pub err : OnErr result (new ≡ old)

-- what reads give may itself be left, for example when only the process crashes
abbrev pub IsSound : State → Type 0
IsSound state = BothLeft state (seen_in state)
