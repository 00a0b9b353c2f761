use Rattle.std.proofs.Common.{◌<◌, length, refl, sym, ap, ◌∙◌, arith}
use Rattle.fit_base.specs.Value.{numbers, value_size, count_of}
use Rattle.fit_base.proofs.Values.{length-numbers_of, get_or-numbers_of}
use Rattle.fit_table.specs.Cells.{is_none}
use Rattle.fit_table.proofs.CellLemmas.{some_left, none_left, all_left}
use Rattle.fit_table.proofs.array.are_none.Goals as goal

pub loop-i-init : goal.loop-i-init
loop-i-init c = refl

pub returns-then-not-is_none : goal.returns-then-not-is_none
returns-then-not-is_none c =
    let field = c.args.field.now in
    let ns = numbers field.arch (value_size field) (count_of field) field.bytes in
    let below : c.loop-i.i < length ns = omega (arith, length-numbers_of field, c.count-i-end.ensures) in
    sym (c.loop-i.invariant ∙ some_left c.args.base ns c.loop-i.i _ below (get_or-numbers_of field c.loop-i.i (omega (arith, c.count-i-end.ensures)))
    (ap (is_none c.args.base) (sym c.unsigned-number.ensures.number) ∙ sym c.if-not-is_none.ensures))

pub loop-i-preserved : goal.loop-i-preserved
loop-i-preserved c =
    let field = c.args.field.now in
    let ns = numbers field.arch (value_size field) (count_of field) field.bytes in
    let below : c.loop-i.i < length ns = omega (arith, length-numbers_of field, c.count-i-end.ensures) in
    c.loop-i.invariant ∙ none_left c.args.base ns c.loop-i.i _ below (get_or-numbers_of field c.loop-i.i (omega (arith, c.count-i-end.ensures)))
    (ap (is_none c.args.base) (sym c.unsigned-number.ensures.number) ∙ sym c.if-not-is_none.ensures)

pub returns : goal.returns
returns c =
    let field = c.args.field.now in
    let ns = numbers field.arch (value_size field) (count_of field) field.bytes in
    sym (c.loop-i.invariant ∙ all_left c.args.base ns c.loop-i.i (omega (arith, length-numbers_of field, c.count-i-end.ensures)))
