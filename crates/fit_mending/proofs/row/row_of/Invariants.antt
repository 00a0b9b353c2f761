use Rattle.std.proofs.Common.{◌≡◌, ◌++◌, length}
use Rattle.fit_mending.specs.Pieces.{kept_row}
use Rattle.fit_mending.specs.Pieces.{AreWithin}
use Rattle.fit_mending.proofs.row.row_of.Given as goal

abbrev pub invariant-loop-rest : goal.invariant-loop-rest
invariant-loop-rest l = AreWithin l.bytes l.rest × (l.row.items ++ kept_row l.bytes l.rest ≡ l.known ++ kept_row l.bytes l.pieces)

abbrev pub decreases-loop-rest : goal.decreases-loop-rest
decreases-loop-rest l = length l.rest
