use Rattle.std.proofs.Common.{◌<◌, ◌≤◌, List, [], length, refl, subst, arith}
use Rattle.fit_base.specs.Value.{numbers, value_size, count_of}
use Rattle.fit_base.proofs.Values.{length-numbers_of, get_or-numbers_of}
use Rattle.fit_table.specs.Cells.{values_from}
use Rattle.fit_table.specs.Tokens.{Token}
use Rattle.fit_table.proofs.CellLemmas.{value_next, value_last}
use Rattle.fit_table.proofs.TokenLemmas.{LeavesTokens, begin_tokens, less_tokens, off_tokens, no_tokens, tokens_text}
use Rattle.fit_table.proofs.array.put_each.Goals as goal

pub loop-i-init : goal.loop-i-init
loop-i-init g c = begin_tokens _ _

pub returns-in_err-put : goal.returns-in_err-put
returns-in_err-put g c =
    let field = c.args.field.now in
    let ns = numbers field.arch (value_size field) (count_of field) field.bytes in
    let below : c.loop-i.i < length ns = omega (arith, length-numbers_of field, c.count-i-end.ensures) in
    off_tokens _ c.from_residual.ensures.0 c.loop-i.invariant (tokens_text c.in_err-put.ensures)
    (value_next c.args.empty.now c.args.unit c.args.base c.loop-i.front.now ns c.loop-i.i _ below
    (get_or-numbers_of field c.loop-i.i (omega (arith, c.count-i-end.ensures))))

pub returns-in_err-put_at : goal.returns-in_err-put_at
returns-in_err-put_at g c =
    let field = c.args.field.now in
    let ns = numbers field.arch (value_size field) (count_of field) field.bytes in
    let below : c.loop-i.i < length ns = omega (arith, length-numbers_of field, c.count-i-end.ensures) in
    let h = less_tokens _ c.loop-i.invariant (tokens_text c.in_ok-put.ensures)
    (value_next c.args.empty.now c.args.unit c.args.base c.loop-i.front.now ns c.loop-i.i _ below
    (get_or-numbers_of field c.loop-i.i (omega (arith, c.count-i-end.ensures)))) in
    off_tokens _ c.from_residual-in_err-put_at.ensures.0 h c.in_err-put_at.ensures refl

pub loop-i-preserved : goal.loop-i-preserved
loop-i-preserved g c =
    let field = c.args.field.now in
    let ns = numbers field.arch (value_size field) (count_of field) field.bytes in
    let below : c.loop-i.i < length ns = omega (arith, length-numbers_of field, c.count-i-end.ensures) in
    let h = less_tokens _ c.loop-i.invariant (tokens_text c.in_ok-put.ensures)
    (value_next c.args.empty.now c.args.unit c.args.base c.loop-i.front.now ns c.loop-i.i _ below
    (get_or-numbers_of field c.loop-i.i (omega (arith, c.count-i-end.ensures)))) in
    less_tokens _ h c.in_ok-put_at.ensures refl

pub returns : goal.returns
returns g c =
    let field = c.args.field.now in
    let ns = numbers field.arch (value_size field) (count_of field) field.bytes in
    let past : length ns ≤ c.loop-i.i = omega (arith, length-numbers_of field, c.count-i-end.ensures) in
    let P : List Token → Type 0 = λ t. LeavesTokens c.args.pen.now c.loop-i.pen (values_from c.args.empty.now c.args.unit c.args.base [] ns) t in
    no_tokens tt (subst P (value_last c.args.empty.now c.args.unit c.args.base c.loop-i.front.now ns c.loop-i.i past) c.loop-i.invariant)
