use Rattle.std.proofs.Common.{◌≡◌, sym, ap, ◌∙◌, arith}
use Rattle.fit_base.specs.Value.{value_size, count_of}
use Rattle.fit_base.proofs.Values.{length-numbers_of, get_or-numbers_of}
use Rattle.fit_text.specs.Notation.{words_of}
use Rattle.fit_text.proofs.PenLemmas.{puts_then, puts_stop, puts_same}
use Rattle.fit_text.proofs.ValueLemmas.{only_number, several_parts}
use Rattle.fit_text.proofs.value.number.put_numbers.Goals as goal

pub returns-then-count-eq1 : goal.returns-then-count-eq1
returns-then-count-eq1 g c =
    let field = c.args.field.now in
    let number = g.N.Numbers.number c.args.writer.now c.args.base in
    let one : count_of field ≡ 1 = omega (arith, c.count.ensures, c.if-count-eq1.true) in
    puts_same c.put_number.ensures
    (ap number (sym (get_or-numbers_of field 0 (omega (arith, one))))
    ∙ only_number (words_of c.args.notation.now) number field.arch (value_size field) (count_of field) field.bytes one)

pub returns-in_err-put : goal.returns-in_err-put
returns-in_err-put g c =
    let field = c.args.field.now in
    puts_same (puts_stop c.from_residual.ensures.0 c.in_err-put.ensures _)
    (several_parts (words_of c.args.notation.now) (g.N.Numbers.number c.args.writer.now c.args.base) _ (count_of field) (length-numbers_of field)
    (λ one. c.if-count-eq1.false (c.count.ensures ∙ one)))

pub returns-in_err-put_each : goal.returns-in_err-put_each
returns-in_err-put_each g c =
    let field = c.args.field.now in
    puts_same (puts_then c.in_ok-put.ensures (puts_stop c.from_residual-in_err-put_each.ensures.0 c.in_err-put_each.ensures _))
    (several_parts (words_of c.args.notation.now) (g.N.Numbers.number c.args.writer.now c.args.base) _ (count_of field) (length-numbers_of field)
    (λ one. c.if-count-eq1.false (c.count.ensures ∙ one)))

pub returns : goal.returns
returns g c =
    let field = c.args.field.now in
    puts_same (puts_then c.in_ok-put.ensures (puts_then c.in_ok-put_each.ensures c.put-2.ensures))
    (several_parts (words_of c.args.notation.now) (g.N.Numbers.number c.args.writer.now c.args.base) _ (count_of field) (length-numbers_of field)
    (λ one. c.if-count-eq1.false (c.count.ensures ∙ one)))
