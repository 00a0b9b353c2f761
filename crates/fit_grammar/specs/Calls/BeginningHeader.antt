-- The header that bytes begin with, whatever its checksum is.
use Rattle.std.specs.Prelude.{◌≡◌, ℕ, ◌≤◌, List, length, slice_index, slice_range}
use Rattle.fit_base.specs.Number.{low_first}
use Rattle.fit_grammar.specs.declared.file.frame.Frame.{Frame}
use Rattle.fit_grammar.specs.Format.File.{IsFrame, mark}

-- the bytes begin with a header of the frame over this many bytes of records; if it has a checksum, that may be any number
pub record BeginsWithHeader (bytes : List ℕ) (frame : Frame) (size : ℕ) : Type 0 where
  pub is_frame : IsFrame frame
  pub within : frame.header_size ≤ length bytes
  pub header_size : slice_index bytes 0 ≡ frame.header_size
  pub protocol : slice_index bytes 1 ≡ frame.protocol
  pub profile : low_first (slice_range bytes 2 4) ≡ frame.profile
  pub data_size : low_first (slice_range bytes 4 8) ≡ size
  pub marked : slice_range bytes 8 12 ≡ mark
