use Rattle.std.proofs.Common.{ℕ, sym, ap, ◌∙◌, rules}
use Rattle.fit_grammar.specs.Calls.Table.{definition_in}
use Rattle.fit_grammar.proofs.OneItem.DefinitionRead.{nothing_there}
use Rattle.fit_grammar.proofs.item.front.step_after.Goals as goal

pub returns-in-empty : goal.returns-in-empty
returns-in-empty c = nothing_there (definition_in c.args.latest.now) c.args.window.now (search rules)

pub returns-in-len1-up : goal.returns-in-len1-up
returns-in-len1-up c =
    c.step_under.ensures (definition_in c.args.latest.now)
    (sym (c.get.ensures ∙ ap (λ (l : ℕ). definition_in c.args.latest.now l) c.first_local.ensures))
