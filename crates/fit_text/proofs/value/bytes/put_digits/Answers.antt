use Rattle.std.proofs.Common.{arith}
use Rattle.fit_text.specs.Values.{hex_byte}
use Rattle.fit_text.proofs.PenLemmas.{leaves_all, each_next, each_off, each_done}
use Rattle.fit_text.proofs.value.bytes.put_digits.Goals as goal

pub loop-byte-init : goal.loop-byte-init
loop-byte-init g c = leaves_all _ _

pub loop-byte-preserved : goal.loop-byte-preserved
loop-byte-preserved g c =
    each_next hex_byte c.args.bytes.now c.loop-byte.byte-index c.loop-byte.invariant c.in_ok-put.ensures (omega arith) c.hex_byte.ensures

pub returns-in_err-put : goal.returns-in_err-put
returns-in_err-put g c =
    each_off hex_byte c.args.bytes.now c.loop-byte.byte-index c.from_residual.ensures.0 c.loop-byte.invariant
    c.in_err-put.ensures (omega arith) c.hex_byte.ensures

pub returns : goal.returns
returns g c = each_done hex_byte c.args.bytes.now c.loop-byte.byte-index tt c.loop-byte.invariant (omega arith)
