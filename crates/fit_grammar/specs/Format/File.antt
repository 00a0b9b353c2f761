-- Files: a header, records and a closing checksum (FIT protocol, "File frame").
use Rattle.std.specs.Prelude.{◌≡◌, ℕ, ◌/◌, List, [], ◌∷◌, ◌++◌, length, take, slice_index, slice_range, ◌⊎◌}
use Rattle.fit_base.specs.Number.{low_first}
use Rattle.fit_base.specs.Checksum.{crc}
use Rattle.fit_grammar.specs.declared.file.frame.Frame.{Frame}
use Rattle.fit_grammar.specs.Format.Item.{Item}
use Rattle.fit_grammar.specs.Format.Records.{Records}
use Rattle.fit_grammar.specs.Format.Message.{Message, messages_of}

-- what a file encodes: its frame and its items
pub record FileValue : Type 0 where
  pub frame : Frame
  pub items : List Item

-- the four bytes that mark a FIT file, `.FIT`
abbrev pub mark : List ℕ
mark = 0x2E ∷ 0x46 ∷ 0x49 ∷ 0x54 ∷ []

-- header size 12 or 14, and protocol major 1 or 2
pub record IsFrame (frame : Frame) : Type 0 where
  pub size : (frame.header_size ≡ 12) ⊎ (frame.header_size ≡ 14)
  pub major : (frame.protocol / 16 ≡ 1) ⊎ (frame.protocol / 16 ≡ 2)

-- the checksum of a header of 14 bytes is either zero, which means "not given", or right
abbrev pub ChecksHeader : List ℕ → Type 0
ChecksHeader header =
    (low_first (slice_range header 12 14) ≡ 0)
    ⊎ (low_first (slice_range header 12 14) ≡ crc (take 12 header))

-- the bytes are a header of this frame over this many bytes of records
pub record IsHeader (header : List ℕ) (frame : Frame) (size : ℕ) : Type 0 where
  pub is_frame : IsFrame frame
  pub whole : length header ≡ frame.header_size
  pub header_size : slice_index header 0 ≡ frame.header_size
  pub protocol : slice_index header 1 ≡ frame.protocol
  pub profile : low_first (slice_range header 2 4) ≡ frame.profile
  pub data_size : low_first (slice_range header 4 8) ≡ size
  pub marked : slice_range header 8 12 ≡ mark
  pub checked : frame.header_size ≡ 14 → ChecksHeader header

-- two bytes that are the checksum of those before them, low byte first
pub record IsClosing (before closing : List ℕ) : Type 0 where
  pub whole : length closing ≡ 2
  pub right : low_first closing ≡ crc before

-- the bytes are a file of this frame and these items
pub record FileOf (bytes : List ℕ) (v : FileValue) : Type 0 where
  pub header : List ℕ
  pub records : List ℕ
  pub closing : List ℕ
  pub joined : bytes ≡ header ++ records ++ closing
  pub is_header : IsHeader header v.frame (length records)
  pub are_records : Records records v.items
  pub is_closing : IsClosing (header ++ records) closing

-- the bytes are a file, and its messages are these
abbrev pub File : List ℕ → List Message → Type 0
File bytes messages = (v : FileValue) × FileOf bytes v × (messages_of v.items ≡ messages)
