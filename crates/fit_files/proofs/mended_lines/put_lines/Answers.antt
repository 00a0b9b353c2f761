use Rattle.std.proofs.Common.{refl, arith}
use Rattle.fit_text.proofs.PenLemmas.{puts_then, puts_stop, puts_same}
use Rattle.fit_files.specs.Printed.Mended.{pieces_text}
use Rattle.fit_files.proofs.Mending.{text_is}
use Rattle.fit_files.proofs.mended_lines.put_lines.Goals as goal

pub returns-in_err-put_line-clause-lines : goal.returns-in_err-put_line-clause-lines
returns-in_err-put_line-clause-lines g c =
    puts_same (puts_stop c.from_residual.ensures.0 c.in_err-put_line.ensures.line (pieces_text c.args.mended.now.skipped.pieces.items c.args.mended.now.skipped.others.items))
    (text_is c.args.mended.now c.saturating_sub.result c.count_kept.result c.as_slice.result.now c.args.mended.now.skipped.pieces.items
    c.args.mended.now.skipped.others.items
    (omega (arith, c.saturating_sub.ensures, c.len.ensures, c.args.mended.now.skipped.row.ok.0)) c.as_slice.ensures.value c.count_kept.ensures refl refl)

pub returns-clause-lines : goal.returns-clause-lines
returns-clause-lines g c =
    puts_same (puts_then c.in_ok-put_line.ensures.line c.put_pieces.ensures.lines)
    (text_is c.args.mended.now c.saturating_sub.result c.count_kept.result c.as_slice.result.now c.as_slice-2.result.now c.as_slice-3.result.now
    (omega (arith, c.saturating_sub.ensures, c.len.ensures, c.args.mended.now.skipped.row.ok.0)) c.as_slice.ensures.value c.count_kept.ensures c.as_slice-2.ensures.value c.as_slice-3.ensures.value)
