use Rattle.std.proofs.Common.{[], length, get_or, ap, ◌∙◌, refl}
use Rattle.fit_table.proofs.CommaLemmas.{commas_last, commas_put, gap_front, left_same}
use Rattle.fit_table.proofs.NamedLemmas.{empty_cell, first_named_in, first_tokens, gap_tokens_of, no_spread}
use Rattle.fit_table.proofs.TokenLemmas.{less_tokens, off_tokens}
use Rattle.fit_table.specs.NamedPlans.{tokens_of}
use Rattle.fit_table.proofs.named.put_named_cells.Goals as goal

pub put_named_cell-requires : goal.put_named_cell-requires
put_named_cell-requires g c =
    (first_named_in (length c.args.content.now) c.loop-left.left.now c.args.plan.now.rest c.in-len1-up.len_at_least c.loop-left.invariant.inside).0

pub returns-in_err-put_commas : goal.returns-in_err-put_commas
returns-in_err-put_commas g c =
    let gap = (get_or c.loop-left.left.now 0 empty_cell).gap in
    off_tokens _ c.from_residual.ensures.0 c.loop-left.invariant.put (commas_put gap (rw c.from.ensures at c.in_err-put_commas.ensures))
    (first_tokens c.args.raw c.loop-left.left.now c.args.plan.now.rest c.args.arch c.args.content.now c.in-len1-up.len_at_least ∙ gap_front gap _)

pub returns-in_err-put_named_cell : goal.returns-in_err-put_named_cell
returns-in_err-put_named_cell g c =
    let gap = (get_or c.loop-left.left.now 0 empty_cell).gap in
    let h = less_tokens _ c.loop-left.invariant.put (commas_put gap (rw c.from.ensures at c.in_ok-put_commas.ensures))
    (first_tokens c.args.raw c.loop-left.left.now c.args.plan.now.rest c.args.arch c.args.content.now c.in-len1-up.len_at_least ∙ gap_front gap _) in
    off_tokens _ c.from_residual-in_err-put_named_cell.ensures.0 h c.in_err-put_named_cell.ensures refl

pub loop-left-preserved : goal.loop-left-preserved
loop-left-preserved g c =
    let gap = (get_or c.loop-left.left.now 0 empty_cell).gap in
    let h = less_tokens _ c.loop-left.invariant.put (commas_put gap (rw c.from.ensures at c.in_ok-put_commas.ensures))
    (first_tokens c.args.raw c.loop-left.left.now c.args.plan.now.rest c.args.arch c.args.content.now c.in-len1-up.len_at_least ∙ gap_front gap _) in
    record {
      inside = (first_named_in (length c.args.content.now) c.loop-left.left.now c.args.plan.now.rest c.in-len1-up.len_at_least c.loop-left.invariant.inside).1;
      put = less_tokens _ h c.in_ok-put_named_cell.ensures refl;
    }

pub returns : goal.returns
returns g c =
    let rest = c.args.plan.now.rest in
    commas_last rest
    (left_same c.loop-left.invariant.put (ap (λ cells. tokens_of c.args.raw cells c.args.arch c.args.content.now) (no_spread c.loop-left.left.now rest c.in_default.len_below)
    ∙ gap_tokens_of c.args.raw rest [] c.args.arch c.args.content.now)) (rw c.from-2.ensures at c.put_commas-2.ensures)
