use Rattle.fit_grammar.proofs.OneItem.Lengths.{answer_holds}
use Rattle.fit_grammar.proofs.item.least_length.Goals as goal

pub returns-clause-holds : goal.returns-clause-holds
returns-clause-holds g c i rest =
    answer_holds (g.T.Definitions.definition_for c.args.table.now) i c.args.window.now rest c.length_at.result c.length_at.ensures.answer
