use Rattle.std.proofs.Common.{drop}
use Rattle.std.specs.List.{flat_map}
use Rattle.fit_text.proofs.PenLemmas.{Leaves}
use Rattle.fit_table.specs.Cells.{byte_cell}
use Rattle.fit_table.proofs.string.put_bytes.Given as goal

abbrev pub invariant-loop-byte : goal.invariant-loop-byte
invariant-loop-byte g l =
    Leaves l.initial.pen l.pen (flat_map (byte_cell l.in_utf8) l.bytes)
    (flat_map (byte_cell l.in_utf8) (drop l.byte-index l.bytes))
