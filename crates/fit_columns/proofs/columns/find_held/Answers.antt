use Rattle.std.proofs.Common.{arith}
use Rattle.fit_grammar.proofs.Counted.{few_messages}
use Rattle.fit_columns.proofs.columns.find_held.Goals as goal

pub walk-requires-clause-small : goal.walk-requires-clause-small
walk-requires-clause-small c = omega (arith, few_messages c.args.file.now.items, c.data_size.ensures)
