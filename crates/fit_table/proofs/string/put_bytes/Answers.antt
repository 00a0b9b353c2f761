use Rattle.std.proofs.Common.{refl, arith}
use Rattle.fit_text.proofs.PenLemmas.{leaves_all, each_next, each_off, each_done}
use Rattle.fit_table.specs.Cells.{byte_cell}
use Rattle.fit_table.proofs.string.put_bytes.Goals as goal

pub loop-byte-init : goal.loop-byte-init
loop-byte-init g c = leaves_all _ _

pub loop-byte-preserved : goal.loop-byte-preserved
loop-byte-preserved g c =
    each_next (byte_cell c.args.in_utf8) c.args.bytes.now c.loop-byte.byte-index c.loop-byte.invariant c.in_ok-put_byte.ensures (omega arith) refl

pub returns-in_err-put_byte : goal.returns-in_err-put_byte
returns-in_err-put_byte g c =
    each_off (byte_cell c.args.in_utf8) c.args.bytes.now c.loop-byte.byte-index c.from_residual.ensures.0 c.loop-byte.invariant
    c.in_err-put_byte.ensures (omega arith) refl

pub returns : goal.returns
returns g c = each_done (byte_cell c.args.in_utf8) c.args.bytes.now c.loop-byte.byte-index tt c.loop-byte.invariant (omega arith)
