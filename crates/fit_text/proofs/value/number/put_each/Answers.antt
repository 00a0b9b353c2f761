use Rattle.std.proofs.Common.{◌<◌, ◌≤◌, length, arith, subst, List, ℕ, codes}
use Rattle.std.specs.List.{join_by}
use Rattle.fit_base.specs.Value.{numbers, value_size, count_of}
use Rattle.fit_base.proofs.Values.{length-numbers_of, get_or-numbers_of}
use Rattle.fit_text.proofs.PenLemmas.{Leaves, leaves_all, leaves_less, leaves_off, leaves_none}
use Rattle.fit_text.proofs.ValueLemmas.{rest_next, rest_none}
use Rattle.fit_text.proofs.value.number.put_each.Goals as goal

pub loop-i-init : goal.loop-i-init
loop-i-init g c = leaves_all _ _

pub loop-i-preserved : goal.loop-i-preserved
loop-i-preserved g c =
    let field = c.args.field.now in
    let ns = numbers field.arch (value_size field) (count_of field) field.bytes in
    let below : c.loop-i.i < length ns = omega (arith, length-numbers_of field, c.count-i-end.ensures) in
    leaves_less _ c.loop-i.invariant c.in_ok-put_next.ensures
    (rest_next (g.N.Numbers.number c.args.writer.now c.args.base) ns c.loop-i.i _ below (get_or-numbers_of field c.loop-i.i (omega (arith, c.count-i-end.ensures))))

pub returns-in_err-put_next : goal.returns-in_err-put_next
returns-in_err-put_next g c =
    let field = c.args.field.now in
    let ns = numbers field.arch (value_size field) (count_of field) field.bytes in
    let below : c.loop-i.i < length ns = omega (arith, length-numbers_of field, c.count-i-end.ensures) in
    leaves_off _ c.from_residual.ensures.0 c.loop-i.invariant c.in_err-put_next.ensures
    (rest_next (g.N.Numbers.number c.args.writer.now c.args.base) ns c.loop-i.i _ below (get_or-numbers_of field c.loop-i.i (omega (arith, c.count-i-end.ensures))))

pub returns : goal.returns
returns g c =
    let field = c.args.field.now in
    let ns = numbers field.arch (value_size field) (count_of field) field.bytes in
    let none : length ns ≤ c.loop-i.i = omega (arith, length-numbers_of field, c.count-i-end.ensures) in
    let number = g.N.Numbers.number c.args.writer.now c.args.base in
    let P : List ℕ → Type 0 = λ t. Leaves c.args.pen.now c.loop-i.pen (join_by number (codes ",") ns) t in
    leaves_none tt (subst P (rest_none number ns c.loop-i.i none) c.loop-i.invariant)
