use Rattle.std.proofs.Common.{arith}
use Rattle.fit_text.proofs.PenLemmas.{leaves_less, leaves_off}
use Rattle.fit_files.proofs.Mending.{first_piece, all_lines}
use Rattle.fit_files.proofs.mended_lines.put_pieces.Goals as goal

pub returns-in_err-put_piece-clause-lines : goal.returns-in_err-put_piece-clause-lines
returns-in_err-put_piece-clause-lines g c =
    leaves_off _ c.from_residual.ensures.0 c.loop-rest.invariant c.in_err-put_piece.ensures.line
    (first_piece c.loop-rest.rest.now c.loop-rest.later.now _ _ _ c.in-len1-up.len_at_least c.take_first-other.ensures.first c.take_first-other.ensures.left)

pub loop-rest-preserved : goal.loop-rest-preserved
loop-rest-preserved g c =
    leaves_less _ c.loop-rest.invariant c.in_ok-put_piece.ensures.line
    (first_piece c.loop-rest.rest.now c.loop-rest.later.now _ _ _ c.in-len1-up.len_at_least c.take_first-other.ensures.first c.take_first-other.ensures.left)

pub returns-clause-lines : goal.returns-clause-lines
returns-clause-lines g c =
    all_lines _ _ _ _ c.loop-rest.rest.now c.loop-rest.later.now c.flush.result (omega (arith, c.in_default.len_below)) c.loop-rest.invariant c.flush.ensures.all
