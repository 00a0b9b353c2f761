use Rattle.std.proofs.Common.{◌≡◌, ℕ, [], Option, sym, ap, subst, ◌∙◌}
use Rattle.std.proofs.Math.Path.{fun_ext}
use Rattle.fit_grammar.specs.declared.definition.Definition.{Definition}
use Rattle.fit_grammar.specs.Format.Records.{in_force}
use Rattle.fit_grammar.specs.Private.ItemRow.{items_in, items_under, AreRead}
use Rattle.fit_grammar.specs.Calls.Table.{definition_in}
use Rattle.fit_grammar.specs.Private.ByLookup.{lent_items_by}
use Rattle.fit_grammar.proofs.KeptRow.ByLookup.{lent_items_same}
use Rattle.fit_grammar.proofs.item.row.Items.new.Goals as goal

-- no definitions are in force
none : (c : goal.After-new) → definition_in c.new.result ≡ in_force []
none c = fun_ext (λ l. c.new.ensures l)

pub invariant_of-result : goal.invariant_of-result
invariant_of-result c = subst (λ (f : ℕ → Option Definition). AreRead f c.args.records.now) (sym (none c)) c.requires

pub returns : goal.returns
returns c =
    let records = c.args.records.now in
    ap (λ (f : ℕ → Option Definition). lent_items_by f 0 (items_under f records)) (none c) ∙ lent_items_same [] 0 (items_in records)
