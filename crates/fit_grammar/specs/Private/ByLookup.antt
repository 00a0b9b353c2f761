-- Items, as they are and as they are lent, under a lookup of the definitions in force instead of the items before them.
use Rattle.std.specs.Prelude.{ℕ, List, [], ◌∷◌, ◌++◌, Option, Some, None, unwrap_or, option_map, option_and_then, option_to_list}
use Rattle.fit_grammar.specs.declared.definition.Definition.{Definition}
use Rattle.fit_grammar.specs.Format.Item.{Item, Defines, Data}
use Rattle.fit_grammar.specs.Format.Records.{IsDefinedBy}
use Rattle.fit_grammar.specs.Format.Encoding.{HasEncoding}
use Rattle.fit_grammar.specs.Calls.Table.{in_force_after}
use Rattle.fit_grammar.specs.Calls.LentItem.{LentItem, DefinesHere, DataHere, data_under}
use Rattle.fit_grammar.specs.Format.Message.{Message, message_under, compressed_time, next_time, time_stated}

-- the message of an item, with `time` the last time before it; a definition has none
abbrev pub message_by : (ℕ → Option Definition) → ℕ → Item → Option Message
message_by definition_for time (Defines d) = None
message_by definition_for time (Data local offset content) =
    option_map (λ d. message_under d (compressed_time time offset) content) (definition_for local)

-- the time that an item gives
abbrev pub time_by : (ℕ → Option Definition) → ℕ → Item → Option ℕ
time_by definition_for time (Defines d) = None
time_by definition_for time (Data local (Some offset) content) = Some (next_time time offset)
time_by definition_for time (Data local None content) =
    option_and_then (λ m. time_stated m.fields)
    (message_by definition_for time (Data local None content))

-- the item as it is lent
abbrev pub lent_by : (ℕ → Option Definition) → ℕ → Item → Option LentItem
lent_by definition_for time (Defines d) = Some (DefinesHere d)
lent_by definition_for time (Data local offset content) =
    option_map (λ d. DataHere (data_under d local offset (compressed_time time offset) content))
    (definition_for local)

-- the items, starting from the time before them
abbrev pub lent_items_by : (ℕ → Option Definition) → ℕ → List Item → List LentItem
lent_items_by definition_for time [] = []
lent_items_by definition_for time (item ∷ items) =
    option_to_list (lent_by definition_for time item)
    ++ lent_items_by (in_force_after item definition_for)
    (unwrap_or (time_by definition_for time item) time) items

-- each of the items has a spelling and is defined in its place
abbrev pub AllDefinedBy : (ℕ → Option Definition) → List Item → Type 0
AllDefinedBy definition_for [] = Unit {0}
AllDefinedBy definition_for (item ∷ items) =
    HasEncoding item × IsDefinedBy definition_for item
    × AllDefinedBy (in_force_after item definition_for) items
