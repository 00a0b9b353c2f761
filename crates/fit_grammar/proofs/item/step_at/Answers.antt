use Rattle.std.proofs.Common.{ℕ, sym, ap, ◌∙◌, rules}
use Rattle.fit_grammar.proofs.OneItem.DefinitionRead.{nothing_there}
use Rattle.fit_grammar.proofs.item.step_at.Goals as goal

pub returns-in-empty : goal.returns-in-empty
returns-in-empty g c = nothing_there (g.T.Definitions.definition_for c.args.table.now) c.args.window.now (search rules)

pub returns-in-len1-up : goal.returns-in-len1-up
returns-in-len1-up g c =
    c.step_under.ensures (g.T.Definitions.definition_for c.args.table.now)
    (sym (c.get.ensures ∙ ap (λ (l : ℕ). g.T.Definitions.definition_for c.args.table.now l) c.first_local.ensures))
