use Rattle.std.proofs.Common.{get_or, ap, arith, rules}
use Rattle.fit_grammar.proofs.Counted.{few_messages}
use Rattle.fit_grammar.specs.Calls.LentItem.{items_lent}
use Rattle.fit_columns.specs.Rows.{rows_of}
use Rattle.fit_columns.specs.Taken.{HoldsColumns}
use Rattle.fit_columns.proofs.TakenLemmas.{columns_are}
use Rattle.fit_columns.proofs.WalkLemmas.{all_count}
use Rattle.fit_columns.proofs.columns.fill_known.Goals as goal

pub walk-requires-clause-small : goal.walk-requires-clause-small
walk-requires-clause-small c = omega (arith, few_messages c.args.file.now.items, c.data_size.ensures)

pub returns-clause-rows : goal.returns-clause-rows
returns-clause-rows c = omega (arith, c.walk.ensures.taken.count, all_count c.args.message c.args.file.now.items)

pub returns-clause-columns : goal.returns-clause-columns
returns-clause-columns c =
    let held : HoldsColumns c.walk.new.rows c.args.numbers.now (rows_of c.args.message (items_lent c.args.file.now.items)) =
    rw (c.as_slice.ensures.value, c.codes_of-codes.ensures.same) at c.walk.ensures.taken in
    columns_are c.walk.new.rows c.args.message c.args.file.now.items c.args.numbers.now c.args.room _ held c.codes_of-codes.ensures.small
    (ap (λ names. get_or names 0 0) c.walk.ensures.keeps) (search rules)
