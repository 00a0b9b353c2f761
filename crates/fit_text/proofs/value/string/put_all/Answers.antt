use Rattle.std.proofs.Common.{refl, arith}
use Rattle.fit_text.specs.Values.{string_byte}
use Rattle.fit_text.proofs.PenLemmas.{leaves_all, each_next, each_off, each_done}
use Rattle.fit_text.proofs.value.string.put_all.Goals as goal

pub loop-byte-init : goal.loop-byte-init
loop-byte-init g c = leaves_all _ _

pub loop-byte-preserved : goal.loop-byte-preserved
loop-byte-preserved g c =
    each_next (string_byte c.args.escape.now c.args.in_utf8) c.args.bytes.now c.loop-byte.byte-index c.loop-byte.invariant c.in_ok-put_string_byte.ensures (omega arith) refl

pub returns-in_err-put_string_byte : goal.returns-in_err-put_string_byte
returns-in_err-put_string_byte g c =
    each_off (string_byte c.args.escape.now c.args.in_utf8) c.args.bytes.now c.loop-byte.byte-index c.from_residual.ensures.0 c.loop-byte.invariant
    c.in_err-put_string_byte.ensures (omega arith) refl

pub returns : goal.returns
returns g c = each_done (string_byte c.args.escape.now c.args.in_utf8) c.args.bytes.now c.loop-byte.byte-index tt c.loop-byte.invariant (omega arith)
