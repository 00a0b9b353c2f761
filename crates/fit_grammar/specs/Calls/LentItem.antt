-- Items as a file lends them, each where it is: what contracts see of them.
use Rattle.std.specs.Prelude.{◌≡◌, ℕ, ◌<◌, List, [], ◌∷◌, ◌++◌, Option, Some, unwrap_or, option_map, option_to_list}
use Rattle.fit_grammar.specs.declared.definition.Definition.{Definition}
use Rattle.fit_grammar.specs.declared.item.row.FileItem.{FileItem}
use Rattle.fit_grammar.specs.declared.item.row.FileItem.TheVariants as files
use Rattle.fit_grammar.specs.Format.Item.{Item, Defines, Data}
use Rattle.fit_grammar.specs.Format.Records.{in_force}
use Rattle.fit_grammar.specs.Format.Message.{Message, message_under, compressed_time, time_given}
use Rattle.fit_grammar.specs.Calls.Table.{in_force_after}

-- a data message with the definition in force of its local number, and the time of its compressed timestamp, if it has one
pub record LentData : Type 0 where
  pub definition : Definition
  pub local : ℕ
  pub offset : Option ℕ
  pub time : Option ℕ
  pub content : List ℕ

abbrev pub data_under : Definition → ℕ → Option ℕ → Option ℕ → List ℕ → LentData
data_under d local offset time content =
    record { definition = d; local = local; offset = offset; time = time; content = content }

-- a definition, or a data message
pub data LentItem : Type 0 where
  DefinesHere : Definition → LentItem
  DataHere : LentData → LentItem

-- an item of a file, as it is lent
abbrev pub lent_item : FileItem → LentItem
lent_item (files.Definition d) = DefinesHere d
lent_item (files.Data m time) =
    DataHere (data_under m.definition m.local m.offset time m.content.now)

-- the item alone
abbrev pub item_lent : LentItem → Item
item_lent (DefinesHere d) = Defines d
item_lent (DataHere m) = Data m.local m.offset m.content

-- the message of a data message
abbrev pub message_here : LentData → Message
message_here m = message_under m.definition m.time m.content

-- the messages among the items
abbrev pub messages_in : List LentItem → List Message
messages_in [] = []
messages_in (DefinesHere d ∷ items) = messages_in items
messages_in (DataHere m ∷ items) = message_here m ∷ messages_in items

-- the item after the items `before`, with `time` the last time; a data message without a definition in force is not lent
abbrev pub lent_at : List Item → ℕ → Item → Option LentItem
lent_at before time (Defines d) = Some (DefinesHere d)
lent_at before time (Data local offset content) =
    option_map (λ d. DataHere (data_under d local offset (compressed_time time offset) content))
    (in_force before local)

-- items after the items `before`, starting from the time before them
abbrev pub lent_after : List Item → ℕ → List Item → List LentItem
lent_after before time [] = []
lent_after before time (item ∷ items) =
    option_to_list (lent_at before time item)
    ++ lent_after (before ++ item ∷ []) (unwrap_or (time_given before time item) time) items

-- the items of a row; before the first time, the time is 0
abbrev pub items_lent : List Item → List LentItem
items_lent items = lent_after [] 0 items

-- if these definitions are in force before the items, each data message has the one of its local number
abbrev pub AllUnder : (ℕ → Option Definition) → List LentItem → Type 0
AllUnder definition_for [] = Unit {0}
AllUnder definition_for (DefinesHere d ∷ items) =
    (d.local < 16) × AllUnder (in_force_after (Defines d) definition_for) items
AllUnder definition_for (DataHere m ∷ items) =
    (m.local < 16) × (definition_for m.local ≡ Some m.definition) × AllUnder definition_for items
