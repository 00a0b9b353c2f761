-- A file of given records.
use Rattle.std.specs.Prelude.{ℕ, List, ◌++◌, length}
use Rattle.fit_grammar.specs.declared.file.frame.Frame.{Frame}
use Rattle.fit_grammar.specs.Format.Encoding.{encoded_header, with_checksum}

-- a header of the frame, the records as they are, and the checksum of both
abbrev pub framed : Frame → List ℕ → List ℕ
framed frame records = with_checksum (encoded_header frame (length records) ++ records)
