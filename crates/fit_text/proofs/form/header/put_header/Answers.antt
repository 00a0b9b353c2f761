use Rattle.std.proofs.Common.{refl}
use Rattle.fit_text.specs.Notation.{words_of}
use Rattle.fit_text.proofs.PenLemmas.{puts_then, puts_stop, puts_same}
use Rattle.fit_text.proofs.FormLemmas.{header_parts}
use Rattle.fit_text.proofs.form.header.put_header.Goals as goal

pub returns-in_err-put_labelled : goal.returns-in_err-put_labelled
returns-in_err-put_labelled g c =
    puts_same (puts_stop c.from_residual.ensures.0 c.in_err-put_labelled.ensures _)
    (header_parts (words_of c.args.notation.now) c.args.frame c.args.size _ _ _ _ _ c.from.ensures refl refl refl refl)

pub returns-in_err-put_labelled-2 : goal.returns-in_err-put_labelled-2
returns-in_err-put_labelled-2 g c =
    puts_same (puts_then c.in_ok-put_labelled.ensures
    (puts_stop c.from_residual-in_err-put_labelled-2.ensures.0 c.in_err-put_labelled-2.ensures _))
    (header_parts (words_of c.args.notation.now) c.args.frame c.args.size _ _ _ _ _ c.from.ensures c.from-2.ensures refl refl refl)

pub returns-in_err-put_labelled-3 : goal.returns-in_err-put_labelled-3
returns-in_err-put_labelled-3 g c =
    puts_same (puts_then c.in_ok-put_labelled.ensures
    (puts_then c.in_ok-put_labelled-2.ensures (puts_stop c.from_residual-in_err-put_labelled-3.ensures.0
    c.in_err-put_labelled-3.ensures _)))
    (header_parts (words_of c.args.notation.now) c.args.frame c.args.size _ _ _ _ _ c.from.ensures c.from-2.ensures c.from-3.ensures refl refl)

pub returns-in_err-put_labelled-4 : goal.returns-in_err-put_labelled-4
returns-in_err-put_labelled-4 g c =
    puts_same (puts_then c.in_ok-put_labelled.ensures
    (puts_then c.in_ok-put_labelled-2.ensures (puts_then c.in_ok-put_labelled-3.ensures
    (puts_stop c.from_residual-in_err-put_labelled-4.ensures.0 c.in_err-put_labelled-4.ensures _))))
    (header_parts (words_of c.args.notation.now) c.args.frame c.args.size _ _ _ _ _ c.from.ensures c.from-2.ensures c.from-3.ensures c.from-4.ensures refl)

pub returns-in_err-put_labelled-5 : goal.returns-in_err-put_labelled-5
returns-in_err-put_labelled-5 g c =
    puts_same (puts_then c.in_ok-put_labelled.ensures
    (puts_then c.in_ok-put_labelled-2.ensures (puts_then c.in_ok-put_labelled-3.ensures
    (puts_then c.in_ok-put_labelled-4.ensures (puts_stop c.from_residual-in_err-put_labelled-5.ensures.0
    c.in_err-put_labelled-5.ensures _)))))
    (header_parts (words_of c.args.notation.now) c.args.frame c.args.size _ _ _ _ _ c.from.ensures c.from-2.ensures c.from-3.ensures c.from-4.ensures c.from-5.ensures)

pub returns : goal.returns
returns g c =
    puts_same (puts_then c.in_ok-put_labelled.ensures
    (puts_then c.in_ok-put_labelled-2.ensures (puts_then c.in_ok-put_labelled-3.ensures
    (puts_then c.in_ok-put_labelled-4.ensures (puts_then c.in_ok-put_labelled-5.ensures c.put.ensures)))))
    (header_parts (words_of c.args.notation.now) c.args.frame c.args.size _ _ _ _ _ c.from.ensures c.from-2.ensures c.from-3.ensures c.from-4.ensures c.from-5.ensures)
