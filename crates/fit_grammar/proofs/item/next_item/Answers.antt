use Rattle.fit_grammar.proofs.OneItem.Steps.{only_item, only_more, only_undefined}
use Rattle.fit_grammar.proofs.item.next_item.Goals as goal

pub returns-clause-item : goal.returns-clause-item
returns-clause-item g c i used = only_item (g.T.Definitions.definition_for c.args.table.now) c.args.window.now c.step_at.result i used c.step_at.ensures.states

pub returns-clause-more : goal.returns-clause-more
returns-clause-more g c = only_more (g.T.Definitions.definition_for c.args.table.now) c.args.window.now c.step_at.result c.step_at.ensures.states

pub returns-clause-undefined : goal.returns-clause-undefined
returns-clause-undefined g c l = only_undefined (g.T.Definitions.definition_for c.args.table.now) c.args.window.now c.step_at.result l c.step_at.ensures.states
