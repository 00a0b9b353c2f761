use Rattle.std.proofs.Common.{sym}
use Rattle.fit_text.proofs.PenLemmas.{puts_then, puts_stop, puts_same}
use Rattle.fit_table.proofs.CellLemmas.{string_none, string_some}
use Rattle.fit_table.proofs.string.put_string.Goals as goal

pub returns-then-is_empty : goal.returns-then-is_empty
returns-then-is_empty g c =
    puts_same c.put.ensures (string_none c.args.empty.now c.args.field.now.bytes c.text_bytes-text.result.now c.text_bytes-text.ensures (sym c.if-is_empty.ensures))

pub returns-in_err-put : goal.returns-in_err-put
returns-in_err-put g c =
    puts_same (puts_stop c.from_residual.ensures.0 c.in_err-put.ensures _)
    (string_some c.args.empty.now c.args.field.now.bytes _ _ _ c.text_bytes-text.ensures c.is_utf8-in_utf8.ensures c.marks_of-marks.ensures (sym c.if-is_empty.ensures))

pub returns-in_err-put_bytes : goal.returns-in_err-put_bytes
returns-in_err-put_bytes g c =
    puts_same (puts_then c.in_ok-put.ensures (puts_stop c.from_residual-in_err-put_bytes.ensures.0 c.in_err-put_bytes.ensures _))
    (string_some c.args.empty.now c.args.field.now.bytes _ _ _ c.text_bytes-text.ensures c.is_utf8-in_utf8.ensures c.marks_of-marks.ensures (sym c.if-is_empty.ensures))

pub returns : goal.returns
returns g c =
    puts_same (puts_then c.in_ok-put.ensures (puts_then c.in_ok-put_bytes.ensures c.put-3.ensures))
    (string_some c.args.empty.now c.args.field.now.bytes _ _ _ c.text_bytes-text.ensures c.is_utf8-in_utf8.ensures c.marks_of-marks.ensures (sym c.if-is_empty.ensures))
