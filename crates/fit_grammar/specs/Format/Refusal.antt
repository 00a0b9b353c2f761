-- The refusal of bytes that are no file: the fault that their shortest faulty prefix shows.
use Rattle.std.specs.Prelude.{◌≡◌, ◌≢◌, ℕ, ◌+◌, ◌*◌, ◌/◌, ◌<◌, ◌≤◌, List, [], ◌∷◌, ◌++◌, Bool, true, length, take, slice_index, slice_range, Option, None, IsSomeAnd, ◌⊎◌}
use Rattle.fit_base.specs.Number.{low_first}
use Rattle.fit_base.specs.Checksum.{crc}
use Rattle.fit_grammar.specs.declared.file.frame.Frame.{Frame}
use Rattle.fit_grammar.specs.declared.file.fault.FaultKind.{FaultKind}
use Rattle.fit_grammar.specs.declared.file.fault.FaultKind.TheVariants.{Truncated, HeaderSize, Magic, Protocol, HeaderCrc, UndefinedLocal, SplitMessage, FileCrc, TrailingBytes, Memory}
use Rattle.fit_grammar.specs.declared.file.fault.FileFault.{FileFault}
use Rattle.fit_grammar.specs.Format.Item.{Item, head_of, DefinitionHead, DataHead, content_size, part_size}
use Rattle.fit_grammar.specs.Format.Records.{in_force, Records}
use Rattle.fit_grammar.specs.Format.File.{FileValue, FileOf, IsHeader, IsClosing, ChecksHeader, mark}

-- a front of a file: a valid header, and a row of whole items after it
pub record Front : Type 0 where
  pub frame : Frame
  pub size : ℕ
  pub header : List ℕ
  pub records : List ℕ
  pub items : List Item

abbrev pub front_bytes : Front → List ℕ
front_bytes front = front.header ++ front.records

-- the place after the front
abbrev pub front_end : Front → ℕ
front_end front = length front.header + length front.records

pub record IsFront (front : Front) : Type 0 where
  pub is_header : IsHeader front.header front.frame front.size
  pub are_records : Records front.records front.items
  pub inside : length front.records ≤ front.size

-- the last check of a header fails: byte 0, byte 1, bytes 8 to 11, or bytes 12 and 13 of a header of 14
abbrev pub HeaderShows : FaultKind → ℕ → List ℕ → Type 0
HeaderShows HeaderSize place bytes =
    (place ≡ 0) × (length bytes ≡ 1) × (slice_index bytes 0 ≢ 12) × (slice_index bytes 0 ≢ 14)
HeaderShows Protocol place bytes =
    (place ≡ 1) × (length bytes ≡ 2) × (slice_index bytes 1 / 16 ≢ 1)
    × (slice_index bytes 1 / 16 ≢ 2)
HeaderShows Magic place bytes = (place ≡ 8) × (length bytes ≡ 12) × (slice_range bytes 8 12 ≢ mark)
HeaderShows HeaderCrc place bytes =
    (place ≡ 12) × (length bytes ≡ 14) × (slice_index bytes 0 ≡ 14) × (ChecksHeader bytes → ⊥)
HeaderShows _ place bytes = ⊥

-- one byte after the front shows that its item extends past the end of the data; a definition has at least six bytes
abbrev pub SplitsAtFirst : Front → List ℕ → Type 0
SplitsAtFirst front tail =
    (byte : ℕ) × (tail ≡ byte ∷ [])
    × (((local : ℕ) × (announced : Bool) × (head_of byte ≡ DefinitionHead local announced)
    × (front.size < length front.records + 6))
    ⊎ ((local : ℕ) × (offset : Option ℕ) × (head_of byte ≡ DataHead local offset)
    × IsSomeAnd (in_force front.items local)
    (λ d. front.size < length front.records + (1 + content_size d))))

-- six bytes of a definition show, by the number of its fields, that it extends past the end of the data; if developer fields
-- are announced, the byte with their number counts too
abbrev pub SplitsAtCount : Front → List ℕ → Type 0
SplitsAtCount front tail =
    (length tail ≡ 6) × (local : ℕ) × (announced : Bool)
    × (head_of (slice_index tail 0) ≡ DefinitionHead local announced)
    × (front.size < length front.records + (6 + 3 * slice_index tail 5 + part_size announced 0))

-- the bytes of a definition up to the number of its developer fields show by that number that it extends past the end of the
-- data
abbrev pub SplitsAtDeveloperCount : Front → List ℕ → Type 0
SplitsAtDeveloperCount front tail =
    (length tail ≡ 7 + 3 * slice_index tail 5) × (local : ℕ)
    × (head_of (slice_index tail 0) ≡ DefinitionHead local true)
    × (front.size < length front.records
    + (6 + 3 * slice_index tail 5 + part_size true (slice_index tail (6 + 3 * slice_index tail 5))))

-- the fault that the bytes after a front show
abbrev pub TailShows : FaultKind → Front → List ℕ → Type 0
TailShows (UndefinedLocal local) front tail =
    (length front.records < front.size) × (byte : ℕ) × (offset : Option ℕ) × (tail ≡ byte ∷ [])
    × (head_of byte ≡ DataHead local offset) × (in_force front.items local ≡ None)
TailShows SplitMessage front tail =
    (length front.records < front.size)
    × (SplitsAtFirst front tail ⊎ (SplitsAtCount front tail ⊎ SplitsAtDeveloperCount front tail))
-- all the records, and then two bytes that are not the checksum
TailShows FileCrc front tail =
    (length front.records ≡ front.size) × (length tail ≡ 2)
    × (low_first tail ≢ crc (front_bytes front))
-- a file, and then one byte more
TailShows TrailingBytes front tail =
    (length front.records ≡ front.size) × (length tail ≡ 3)
    × IsClosing (front_bytes front) (take 2 tail)
TailShows _ front tail = ⊥

-- the place of a fault after a front: an item's first byte, the checksum, or the byte after it
abbrev pub place_after : FaultKind → Front → ℕ
place_after TrailingBytes front = front_end front + 2
place_after kind front = front_end front

-- the bytes are a front and a tail that shows a fault
pub record ShowsAfter (kind : FaultKind) (place : ℕ) (bytes : List ℕ) : Type 0 where
  pub front : Front
  pub tail : List ℕ
  pub is_front : IsFront front
  pub joined : bytes ≡ front_bytes front ++ tail
  pub shown : TailShows kind front tail
  pub there : place ≡ place_after kind front

-- the last of these bytes shows a fault
abbrev pub Shows : FaultKind → ℕ → List ℕ → Type 0
Shows kind place bytes = HeaderShows kind place bytes ⊎ ShowsAfter kind place bytes

-- the shortest prefix of the bytes that shows a fault shows this one
pub record IsShortestShown (bytes : List ℕ) (kind : FaultKind) (place : ℕ) : Type 0 where
  pub count : ℕ
  pub within : count ≤ length bytes
  pub shown : Shows kind place (take count bytes)
  pub shortest : (n : ℕ) (other : FaultKind) (at : ℕ) → n < count → Shows other at (take n bytes)
      → ⊥

-- no prefix shows a fault, and the bytes are no file: the input ends too soon
pub record IsCutShort (bytes : List ℕ) (kind : FaultKind) (place : ℕ) : Type 0 where
  pub truncated : kind ≡ Truncated
  pub at_end : place ≡ length bytes
  pub none_shown : (n : ℕ) (other : FaultKind) (at : ℕ) → n ≤ length bytes
      → Shows other at (take n bytes) → ⊥
  pub no_file : (v : FileValue) → FileOf bytes v → ⊥

-- the refusal of bytes that are no file
abbrev pub Refusal : List ℕ → FaultKind → ℕ → Type 0
Refusal bytes kind place = IsShortestShown bytes kind place ⊎ IsCutShort bytes kind place

-- an item begins at this place, and its first byte is there
pub record ItemBeginsAt (bytes : List ℕ) (place : ℕ) : Type 0 where
  pub front : Front
  pub rest : List ℕ
  pub is_front : IsFront front
  pub more : length front.records < front.size
  pub come : 1 ≤ length rest
  pub joined : bytes ≡ front_bytes front ++ rest
  pub there : place ≡ front_end front

-- the fault is the refusal, or lack of memory at an item that begins at or before the refusal's place
abbrev pub IsFaultOf : List ℕ → FileFault → Type 0
IsFaultOf bytes fault =
    ((fault.kind ≢ Memory) × Refusal bytes fault.kind fault.place)
    ⊎ ((fault.kind ≡ Memory) × ItemBeginsAt bytes fault.place
    × ((kind : FaultKind) (place : ℕ) → Refusal bytes kind place → fault.place ≤ place))
