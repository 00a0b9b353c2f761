use Rattle.std.proofs.Common.{arith, refl}
use Rattle.fit_columns.proofs.RowLemmas.{first_in}
use Rattle.fit_table.proofs.LineLemmas.{any_place, cells_end, cells_next, cells_none, cells_skip, no_text, untimed}
use Rattle.fit_table.proofs.TokenLemmas.{less_tokens, no_tokens, off_tokens}
use Rattle.fit_table.proofs.CommaLemmas.{front_put, left_same}
use Rattle.fit_table.proofs.table.put_cells.Goals as goal

pub loop-left-preserved-then-not-has_cell : goal.loop-left-preserved-then-not-has_cell
loop-left-preserved-then-not-has_cell g c =
    let left = c.loop-left.left.now in
    let here = first_in _ left any_place c.in-len1-up.len_at_least c.loop-left.invariant.inside in
    let none = c.has_cell.ensures c.if-not-has_cell.true in
    let empty = c.least_size-least.ensures.empty (omega (arith, none.0)) in
    record {
      few = omega (arith, c.loop-left.invariant.few, c.in-len1-up.len_at_least);
      inside = here.1;
      put = cells_skip c.args.layout.now c.args.arch c.args.time c.args.content.now c.loop-left.commas left c.in-len1-up.len_at_least c.loop-left.invariant.put
          (no_text c.args.layout.now c.args.arch c.args.time c.args.content.now _ (omega (arith, none.0, c.least_size-least.ensures.bound)) here.0.0
          (untimed c.args.time _ none.1) empty);
    }

pub returns-in_err-put_commas : goal.returns-in_err-put_commas
returns-in_err-put_commas g c =
    off_tokens _ c.from_residual.ensures.0 c.loop-left.invariant.put (front_put c.loop-left.commas c.in_err-put_commas.ensures)
    (cells_next c.args.layout.now c.args.arch c.args.time c.args.content.now c.loop-left.commas c.loop-left.left.now c.in-len1-up.len_at_least)

pub returns-in_err-put_cell : goal.returns-in_err-put_cell
returns-in_err-put_cell g c =
    let h = less_tokens _ c.loop-left.invariant.put (front_put c.loop-left.commas c.in_ok-put_commas.ensures)
    (cells_next c.args.layout.now c.args.arch c.args.time c.args.content.now c.loop-left.commas c.loop-left.left.now c.in-len1-up.len_at_least) in
    off_tokens _ c.from_residual-in_err-put_cell.ensures.0 h c.in_err-put_cell.ensures refl

pub loop-left-preserved : goal.loop-left-preserved
loop-left-preserved g c =
    let h = less_tokens _ c.loop-left.invariant.put (front_put c.loop-left.commas c.in_ok-put_commas.ensures)
    (cells_next c.args.layout.now c.args.arch c.args.time c.args.content.now c.loop-left.commas c.loop-left.left.now c.in-len1-up.len_at_least) in
    record {
      few = omega (arith, c.loop-left.invariant.few, c.in-len1-up.len_at_least);
      inside = (first_in _ c.loop-left.left.now any_place c.in-len1-up.len_at_least c.loop-left.invariant.inside).1;
      put = less_tokens _ h c.in_ok-put_cell.ensures refl;
    }

pub returns-then-commas-eq0 : goal.returns-then-commas-eq0
returns-then-commas-eq0 g c =
    no_tokens _ (left_same c.loop-left.invariant.put (cells_none c.args.layout.now c.args.arch c.args.time c.args.content.now c.loop-left.commas c.loop-left.left.now
    c.in_default.len_below c.if-commas-eq0.true))

pub returns : goal.returns
returns g c =
    cells_end c.args.layout.now c.args.arch c.args.time c.args.content.now c.loop-left.commas c.loop-left.left.now c.in_default.len_below c.if-commas-eq0.false
    c.loop-left.invariant.put c.put_commas-2.ensures
