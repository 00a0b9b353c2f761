use Rattle.std.proofs.Common.{get_or, ap, arith, rules}
use Rattle.fit_grammar.proofs.Counted.{few_messages}
use Rattle.fit_columns.proofs.TakenLemmas.{heads_are}
use Rattle.fit_columns.proofs.WalkLemmas.{all_count}
use Rattle.fit_columns.proofs.values.find_values.Goals as goal

pub walk-requires-clause-small : goal.walk-requires-clause-small
walk-requires-clause-small c = omega (arith, few_messages c.args.file.now.items, c.data_size.ensures)

pub returns-clause-rows : goal.returns-clause-rows
returns-clause-rows c = omega (arith, c.walk.ensures.taken.count, all_count c.args.message c.args.file.now.items)

pub returns-clause-heads : goal.returns-clause-heads
returns-clause-heads c =
    heads_are c.walk.new.rows _ c.args.codes.now c.args.room _ c.walk.ensures.taken (ap (λ names. get_or names 0 0) c.walk.ensures.keeps) (search rules)
