use Rattle.std.proofs.Common.{◌≡◌, ◌+◌, ◌++◌, length, take}
use Rattle.std.specs.Prelude.{map}
use Rattle.fit_mending.specs.Pieces.{AreWithin, kept_row}
use Rattle.fit_c.specs.Skipped.{piece_of}
use Rattle.fit_c.proofs.framing.copy_kept.Given as goal

abbrev pub invariant-loop-rest : goal.invariant-loop-rest
invariant-loop-rest l = AreWithin l.bytes (map piece_of l.rest)
    × (l.at + length (kept_row l.bytes (map piece_of l.rest)) ≡ l.start + length (kept_row l.bytes (map piece_of l.pieces)))
    × (length l.out ≡ length l.initial.out)
    × (take l.at l.out ++ kept_row l.bytes (map piece_of l.rest)
    ≡ take l.start l.initial.out ++ kept_row l.bytes (map piece_of l.pieces))

abbrev pub decreases-loop-rest : goal.decreases-loop-rest
decreases-loop-rest l = length l.rest
