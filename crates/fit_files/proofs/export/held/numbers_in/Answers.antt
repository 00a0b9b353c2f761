use Rattle.std.proofs.Common.{◌≡◌, ℕ, ◌==◌, ◌&&◌, ◌||◌, set, false, nat_lt, get_or, length-set, ap, sym, ◌∙◌, arith}
use Rattle.std.proofs.lemmas.List.{get_or-set_same, get_or-set_other}
use borrow.Author.Count.{below_more}
use Rattle.fit_grammar.specs.Calls.LentItem.{items_lent}
use Rattle.fit_columns.specs.Fields.{held_in}
use Rattle.fit_files.proofs.Exports.Fields.{held_says}
use Rattle.fit_files.proofs.export.held.numbers_in.Goals as goal

pub loop-number-preserved : goal.loop-number-preserved
loop-number-preserved c =
    let at = c.loop-number.number in
    let held = c.loop-number.held in
    let known = c.find_held-timed.new.held in
    let timed = c.find_held-timed.result in
    let P : ℕ → Type 0 = λ k. get_or (set held at c.is_there.result) k false ≡ (nat_lt 1 (get_or known k 0) || ((k == 253) && timed)) in
    record {
      long = simp length-set (omega (arith, c.loop-number.invariant.long));
      held = below_more P at
          (λ k lt. get_or-set_other held at k c.is_there.result false (λ e. omega (arith, e, lt)) ∙ c.loop-number.invariant.held k lt)
          (get_or-set_same held at c.is_there.result false (omega (arith, c.loop-number-test.true, c.loop-number.invariant.long))
          ∙ c.is_there.ensures ∙ ap (λ n. nat_lt 1 (get_or known at 0) || ((at == n) && timed)) c.from.ensures);
    }

pub returns : goal.returns
returns c = λ number small.
    c.loop-number.invariant.held number (omega (arith, small, c.loop-number-test.false))
    ∙ ap (λ n. nat_lt 1 n || ((number == 253) && c.find_held-timed.result)) (c.find_held-timed.ensures.held number (omega (arith, small)))
    ∙ ap (λ b. nat_lt 1 (held_in c.args.message (items_lent c.args.file.now.items) number) || ((number == 253) && b)) c.find_held-timed.ensures.timed
    ∙ sym (held_says c.args.message number (items_lent c.args.file.now.items) small)
