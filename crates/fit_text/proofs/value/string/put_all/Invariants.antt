use Rattle.std.proofs.Common.{drop}
use Rattle.std.specs.List.{flat_map}
use Rattle.fit_text.specs.Values.{string_byte}
use Rattle.fit_text.proofs.PenLemmas.{Leaves}
use Rattle.fit_text.proofs.value.string.put_all.Given as goal

abbrev pub invariant-loop-byte : goal.invariant-loop-byte
invariant-loop-byte g l =
    Leaves l.initial.pen l.pen (flat_map (string_byte l.escape l.in_utf8) l.bytes)
    (flat_map (string_byte l.escape l.in_utf8) (drop l.byte-index l.bytes))
