use Rattle.std.proofs.Common.{subst, ◌∙◌}
use Rattle.fit_grammar.specs.Format.Item.{Spells}
use Rattle.fit_grammar.specs.Calls.LentItem.{item_lent, lent_item}
use Rattle.fit_grammar.specs.declared.item.row.FileItem.{FileItem}
use Rattle.fit_shifting.proofs.ReadItems.{definition_read}
use Rattle.fit_shifting.proofs.checking.size_read.Goals as goal

pub returns-in-Definition : goal.returns-in-Definition
returns-in-Definition c = λ own rest joined spelled.
    c.definition_size.ensures
    ∙ definition_read c.in-Definition.definition c.args.bytes.now own rest joined
    (subst (λ (i : FileItem). Spells (item_lent (lent_item i)) own) c.in-Definition.is spelled)
