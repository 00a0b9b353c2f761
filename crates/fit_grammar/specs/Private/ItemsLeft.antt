-- The items that are left of a file, while they are lent one after another.
use Rattle.std.specs.Prelude.{List}
use Rattle.fit_grammar.specs.declared.item.row.Items.TheInside.{Inside}
use Rattle.fit_grammar.specs.Calls.LentItem.{LentItem}
use Rattle.fit_grammar.specs.Private.ItemRow.{items_under, AreRead}
use Rattle.fit_grammar.specs.Calls.Table.{definition_in}
use Rattle.fit_grammar.specs.Private.ByLookup.{lent_items_by}

abbrev pub items_left : Inside → List LentItem
items_left s =
    lent_items_by (definition_in s.latest) s.time (items_under (definition_in s.latest) s.rest.now)

-- the bytes are those of the items that are left
abbrev pub AreLeft : Inside → Type 0
AreLeft s = AreRead (definition_in s.latest) s.rest.now
