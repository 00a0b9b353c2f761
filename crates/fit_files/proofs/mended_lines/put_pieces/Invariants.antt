use Rattle.std.proofs.Common.{length}
use Rattle.fit_text.proofs.PenLemmas.{Leaves}
use Rattle.fit_files.specs.Printed.Mended.{pieces_text}
use Rattle.fit_files.proofs.mended_lines.put_pieces.Given as goal

abbrev pub invariant-loop-rest : goal.invariant-loop-rest
invariant-loop-rest g l = Leaves l.initial.pen l.pen (pieces_text l.pieces l.others) (pieces_text l.rest l.later)

abbrev pub decreases-loop-rest : goal.decreases-loop-rest
decreases-loop-rest g l = length l.rest
