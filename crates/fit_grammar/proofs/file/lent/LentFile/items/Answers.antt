use Rattle.std.proofs.Common.{◌≡◌, [], List, map, sym, ap, subst, ◌∙◌}
use Rattle.fit_grammar.specs.Format.Records.{in_force}
use Rattle.fit_grammar.specs.Format.File.{FileValue}
use Rattle.fit_grammar.specs.Format.Message.{messages_of}
use Rattle.fit_grammar.specs.Calls.LentItem.{LentItem, item_lent, items_lent, messages_in, AllUnder}
use Rattle.fit_grammar.specs.Private.ItemRow.{items_in}
use Rattle.fit_grammar.proofs.KeptRow.Lent.{lent_are, lent_messages, lent_under}
use Rattle.fit_grammar.proofs.file.lent.LentFile.items.Goals as goal

-- the items that are lent are those of the row
lent : (c : goal.After-new) → c.new.result ≡ items_lent (items_in c.self.inside.records.now)
lent c = c.new.ensures

pub returns-clause-same : goal.returns-clause-same
returns-clause-same c =
    ap (map item_lent) (lent c)
    ∙ lent_are [] 0 (items_in c.self.inside.records.now) c.self.invariant.can_be.items_follow
    ∙ ap (λ (v : FileValue). v.items) c.self.view_is

pub returns-clause-under : goal.returns-clause-under
returns-clause-under c =
    subst (λ (items : List LentItem). AllUnder (in_force []) items) (sym (lent c))
    (lent_under [] 0 (items_in c.self.inside.records.now) c.self.invariant.can_be.items_follow)

pub returns-clause-messages : goal.returns-clause-messages
returns-clause-messages c =
    ap messages_in (lent c)
    ∙ lent_messages [] 0 (items_in c.self.inside.records.now)
    ∙ ap (λ (v : FileValue). messages_of v.items) c.self.view_is
