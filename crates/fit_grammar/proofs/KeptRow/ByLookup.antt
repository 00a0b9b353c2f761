-- Lent and defined items, by a lookup of definitions and by the items before: for the reading of a kept row.
use Rattle.std.proofs.Common.{◌≡◌, ℕ, List, [], ◌∷◌, ◌++◌, Option, Some, None, refl, sym, ap, subst, ◌∙◌}
use Rattle.std.specs.Prelude.{unwrap_or, option_to_list}
use Rattle.std.proofs.Math.Path.{fun_ext}
use Rattle.fit_grammar.specs.declared.definition.Definition.{Definition}
use Rattle.fit_grammar.specs.Format.Item.{Item, Defines, Data}
use Rattle.fit_grammar.specs.Format.Records.{in_force}
use Rattle.fit_grammar.specs.Format.Message.{time_given}
use Rattle.fit_grammar.specs.Calls.Table.{in_force_after}
use Rattle.fit_grammar.specs.Calls.LentItem.{LentItem, lent_at, lent_after}
use Rattle.fit_grammar.specs.Calls.Possible.{AllCanFollow}
use Rattle.fit_grammar.specs.Private.ByLookup.{time_by, lent_by, lent_items_by, AllDefinedBy}
use Rattle.fit_grammar.proofs.KeptRow.InForce.{in_force-append}

-- the definitions in force after one more item
pub in_force_after-in_force : (before : List Item) (item : Item) → in_force_after item (in_force before) ≡ in_force (before ++ item ∷ [])
in_force_after-in_force before item = fun_ext (λ l. sym (in_force-append before item l))

lent_same : (before : List Item) (time : ℕ) (item : Item) → lent_by (in_force before) time item ≡ lent_at before time item
lent_same before time (Defines d) = refl
lent_same before time (Data local offset content) = refl

time_same : (before : List Item) (time : ℕ) (item : Item) → time_by (in_force before) time item ≡ time_given before time item
time_same before time (Defines d) = refl
time_same before time (Data local None content) = refl
time_same before time (Data local (Some offset) content) = refl

-- the items lent after others are those under the definitions in force there
pub lent_items_same : (before : List Item) (time : ℕ) (items : List Item)
    → lent_items_by (in_force before) time items ≡ lent_after before time items
lent_items_same before time [] = refl
lent_items_same before time (item ∷ items) =
    ap (λ (o : Option LentItem). option_to_list o ++ lent_items_by (in_force_after item (in_force before))
    (unwrap_or (time_by (in_force before) time item) time) items) (lent_same before time item)
    ∙ ap (λ (o : Option ℕ). option_to_list (lent_at before time item) ++ lent_items_by
    (in_force_after item (in_force before)) (unwrap_or o time) items) (time_same before time item)
    ∙ ap (λ (f : ℕ → Option Definition). option_to_list (lent_at before time item) ++ lent_items_by f
    (unwrap_or (time_given before time item) time) items) (in_force_after-in_force before item)
    ∙ ap (λ (ls : List LentItem). option_to_list (lent_at before time item) ++ ls)
    (lent_items_same (before ++ item ∷ []) (unwrap_or (time_given before time item) time) items)

-- items that can be in their places are defined under the definitions in force
pub all_defined : (before items : List Item) → AllCanFollow before items → AllDefinedBy (in_force before) items
all_defined before [] a = tt
all_defined before (item ∷ items) a = (
  a.0.encodable,
  a.0.defined,
  subst (λ (f : ℕ → Option Definition). AllDefinedBy f items) (sym (in_force_after-in_force before item))
      (all_defined (before ++ item ∷ []) items a.1),
)
