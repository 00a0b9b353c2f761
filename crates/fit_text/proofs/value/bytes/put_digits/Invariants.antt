use Rattle.std.proofs.Common.{drop}
use Rattle.std.specs.List.{flat_map}
use Rattle.fit_text.specs.Values.{hex_byte}
use Rattle.fit_text.proofs.PenLemmas.{Leaves}
use Rattle.fit_text.proofs.value.bytes.put_digits.Given as goal

abbrev pub invariant-loop-byte : goal.invariant-loop-byte
invariant-loop-byte g l =
    Leaves l.initial.pen l.pen (flat_map hex_byte l.bytes)
    (flat_map hex_byte (drop l.byte-index l.bytes))
