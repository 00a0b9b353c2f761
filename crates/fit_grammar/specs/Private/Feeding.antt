-- What the decoder knows of the bytes so far.
use Rattle.std.specs.Prelude.{◌≡◌, ◌≢◌, ℕ, ◌+◌, ◌-◌, ◌<◌, ◌≤◌, List, [], ◌∷◌, ◌++◌, length, take, drop, ◌==◌, if◌then◌else◌, Option, Some, None}
use Rattle.fit_base.specs.Number.{low_first}
use Rattle.fit_base.specs.Checksum.{crc}
use Rattle.fit_grammar.specs.declared.file.fault.FaultKind.{FaultKind}
use Rattle.fit_grammar.specs.declared.file.fault.FaultKind.TheVariants.{Truncated, FileCrc, TrailingBytes}
use Rattle.fit_grammar.specs.declared.file.fault.FileFault.{FileFault}
use Rattle.fit_grammar.specs.declared.file.header.Header.{Header}
use Rattle.fit_grammar.specs.declared.file.state.Reading.{Reading}
use Rattle.fit_grammar.specs.Format.Item.{item_size}
use Rattle.fit_grammar.specs.Format.Records.{in_force, data_size}
use Rattle.fit_grammar.specs.Format.File.{FileValue, FileOf}
use Rattle.fit_grammar.specs.Format.Refusal.{IsCutShort}
use Rattle.fit_grammar.specs.Calls.Pieces.{ShowsNothing}
use Rattle.fit_grammar.specs.Calls.Places.{ArePlaces, place_read}
use Rattle.fit_grammar.specs.Calls.Step.{ItemBegun}
use Rattle.fit_grammar.specs.Private.Decoding.{Reached, IsShort, BeginsWith, TakesItem, IsItemFault}

-- the places with one more item, which was at `at`, is written in `written` bytes and was read in `used`
abbrev pub with_place : List ℕ → ℕ → ℕ → ℕ → List ℕ
with_place longer at written used =
    if used == written then longer else longer ++ (at - length longer) ∷ []

-- an item of `used` bytes was taken from the front of the window, which is at place `at`
pub record TakesNext (old new : FileValue) (before after window : List ℕ)
    (at left used : ℕ) : Type 0 where
  pub taken : TakesItem old new window left used
  pub noted_is : after ≡ with_place before at (item_size taken.item) used

-- the places of the items in these bytes, which end at `written` as they are written; all noted places are before that
pub record AreNoted (bytes : List ℕ) (written : ℕ) (longer : List ℕ) : Type 0 where
  pub places : ArePlaces bytes longer
  pub all : (place : ℕ) → written ≤ place → place_read longer place ≡ place + length longer

-- the window comes after the items that were read of these bytes, and the checksum covers the header and the records so far
pub record StandsBefore (bytes : List ℕ) (r : Reading) (window : List ℕ) : Type 0 where
  pub reached : Reached bytes r.file r.at r.end
  pub window_is : drop r.at bytes ≡ window
  pub checked : r.checksum ≡ crc (take r.end bytes)
  pub noted : AreNoted (take r.at bytes)
      (r.file.frame.header_size + data_size r.file.items) r.places

-- the bytes end within an item that is not whole
pub record Waits (bytes : List ℕ) (r : Reading) (carry : List ℕ) : Type 0 where
  pub begun : ItemBegun (in_force r.file.items) carry
  pub cut : IsCutShort bytes Truncated (length bytes)

-- these bytes were read
pub record ReadsOn (fed : List ℕ) (r : Reading) : Type 0 where
  pub stands : StandsBefore fed r (r.carry.items ++ r.closing.items)
  pub within : r.at < r.end
      → (r.closing.items ≡ []) × ItemBegun (in_force r.file.items) r.carry.items
  pub after : r.end ≤ r.at → r.carry.items ≡ []
  pub short : length r.carry.items < 130051
  pub cut : length r.closing.items < 2 → IsCutShort fed Truncated (length fed)
  pub whole : 2 ≤ length r.closing.items → FileOf fed r.file × ShowsNothing fed

-- the fault of this kind in this reading
abbrev pub fault_in : Reading → FaultKind → FileFault
fault_in r TrailingBytes = record { kind = TrailingBytes; place = r.end + 2 }
fault_in r kind = record { kind = kind; place = r.at }

-- only the place, the items, their places and the carried bytes may have changed
pub record GoesOnFrom (old new : Reading) : Type 0 where
  pub end : new.end ≡ old.end
  pub checksum : new.checksum ≡ old.checksum
  pub closing : new.closing ≡ old.closing

-- the bytes of the header so far, and the header once it is whole
abbrev pub TakesHeader : List ℕ → List ℕ → Option Header → Type 0
TakesHeader bytes taken None =
    (taken ≡ bytes) × IsShort bytes × IsCutShort bytes Truncated (length bytes)
TakesHeader bytes taken (Some header) =
    (taken ≡ take 14 bytes) × BeginsWith taken header × (header.data_size < 4294967296)

-- what the bytes after the records show
abbrev pub ClosingShows : List ℕ → ℕ → FaultKind → Type 0
ClosingShows tail checksum FileCrc = (2 ≤ length tail) × (low_first (take 2 tail) ≢ checksum)
ClosingShows tail checksum TrailingBytes = (2 < length tail) × (low_first (take 2 tail) ≡ checksum)
ClosingShows tail checksum _ = ⊥

-- whole items were taken, up to the end of the data or to an unfinished item
pub record TakesItems (bytes : List ℕ) (new : Reading) (rest : List ℕ) : Type 0 where
  pub stands : StandsBefore bytes new (new.closing.items ++ rest)
  pub waits : new.at < new.end → (new.closing.items ≡ []) × Waits bytes new rest

-- the carried item is still not whole, or it was taken with `used` bytes of the piece
abbrev pub CarriesOn : List ℕ → Reading → List ℕ → Option ℕ → Type 0
CarriesOn bytes new piece None =
    StandsBefore bytes new new.carry.items × (new.at < new.end) × Waits bytes new new.carry.items
CarriesOn bytes new piece (Some used) =
    (used ≤ length piece) × StandsBefore bytes new (drop used piece) × (new.carry.items ≡ [])

-- the carried item is still not whole, or it was taken, with so many bytes after those that were carried before
abbrev pub TakesBegun : Reading → Reading → ℕ → Option ℕ → Type 0
TakesBegun old new had None =
    IsItemFault (in_force old.file.items) old.carry.items (old.end - old.at) Truncated
    × (new.file ≡ old.file) × (new.places ≡ old.places) × (new.at ≡ old.at)
    × (new.carry ≡ old.carry)
TakesBegun old new had (Some used) =
    TakesNext old.file new.file old.places new.places old.carry.items old.at (old.end - old.at)
    (had + used)
    × (new.at ≡ old.at + (had + used)) × (new.carry.items ≡ [])
