use Rattle.std.proofs.Common.{refl}
use Rattle.fit_text.specs.Notation.{words_of}
use Rattle.fit_text.proofs.ValueLemmas.{string_parts}
use Rattle.fit_text.proofs.PenLemmas.{puts_then, puts_stop, puts_same}
use Rattle.fit_text.proofs.value.string.put_string.Goals as goal

pub returns-in_err-put : goal.returns-in_err-put
returns-in_err-put g c =
    puts_same (puts_stop c.from_residual.ensures.0 c.in_err-put.ensures _)
    (string_parts (words_of c.args.notation.now) c.args.field.now.bytes _ _ refl c.keeps_utf8-in_utf8.ensures)

pub returns-in_err-put_all : goal.returns-in_err-put_all
returns-in_err-put_all g c =
    puts_same (puts_then c.in_ok-put.ensures (puts_stop c.from_residual-in_err-put_all.ensures.0 c.in_err-put_all.ensures _))
    (string_parts (words_of c.args.notation.now) c.args.field.now.bytes _ _ c.text_bytes.ensures c.keeps_utf8-in_utf8.ensures)

pub returns : goal.returns
returns g c =
    puts_same (puts_then c.in_ok-put.ensures (puts_then c.in_ok-put_all.ensures c.put-2.ensures))
    (string_parts (words_of c.args.notation.now) c.args.field.now.bytes _ _ c.text_bytes.ensures c.keeps_utf8-in_utf8.ensures)
