use Rattle.std.proofs.Common.{sym}
use Rattle.fit_text.proofs.PenLemmas.{puts_then, puts_stop, puts_same}
use Rattle.fit_text.proofs.ValueLemmas.{byte_whole, byte_escaped}
use Rattle.fit_text.proofs.value.string.put_string_byte.Goals as goal

pub returns-then-is_whole : goal.returns-then-is_whole
returns-then-is_whole g c = puts_same c.put.ensures (byte_whole c.args.escape.now _ _ (sym c.if-is_whole.ensures))

pub returns-in_err-put : goal.returns-in_err-put
returns-in_err-put g c = puts_same (puts_stop c.from_residual.ensures.0 c.in_err-put.ensures _) (byte_escaped c.args.escape.now _ _ (sym c.if-is_whole.ensures))

pub returns : goal.returns
returns g c =
    puts_same (puts_then c.in_ok-put.ensures (puts_same c.put-3.ensures c.hex_byte.ensures)) (byte_escaped c.args.escape.now _ _ (sym c.if-is_whole.ensures))
