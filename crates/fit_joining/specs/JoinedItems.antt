-- The items of several parts as one activity, and the file of them.
use Rattle.std.specs.Prelude.{ℕ, Bool, List, [], ◌∷◌, ◌++◌, map, Option, Some, None, if◌then◌else◌}
use Rattle.fit_grammar.specs.declared.definition.Definition.{Definition}
use Rattle.fit_grammar.specs.declared.definition.DeveloperFieldDefinition.{DeveloperFieldDefinition}
use Rattle.fit_grammar.specs.Format.Item.{Item, Defines, Data}
use Rattle.fit_grammar.specs.Format.File.{FileValue}
use Rattle.fit_grammar.specs.Format.Message.{Message, messages_of}
use Rattle.fit_grammar.specs.Calls.LentItem.{LentItem, LentData, DefinesHere, DataHere, items_lent, message_here}
use Rattle.fit_finishing.specs.declared.sport.SportStated.{SportStated}
use Rattle.fit_joining.specs.declared.part.Part.{Part}
use Rattle.fit_joining.specs.declared.tally.Tally.{Tally}
use Rattle.fit_joining.specs.Makers.{Maker, declared_past, index_in, no_makers}
use Rattle.fit_joining.specs.Part.{stays, tally_after, tally_before, tally_past}
use Rattle.fit_joining.specs.Timer.{span_of, start_due, stop_due}
use Rattle.fit_joining.specs.Joined.{first_tally, is_followed, laps_stay, next_tally, sport_due}
use Rattle.fit_joining.specs.Content.{content_changed}
use Rattle.fit_joining.specs.Events.{event_definition, event_content, sport_definition, sport_content}

-- ---- a part

-- a developer field of a definition, with its index in the joined file
abbrev pub developer_given : List (Option ℕ) → DeveloperFieldDefinition → DeveloperFieldDefinition
developer_given given field =
    record { number = field.number; size = field.size; index = index_in given field.index }

-- a definition with such developer fields
abbrev pub definition_given : List (Option ℕ) → Definition → Definition
definition_given given d =
    record d { developer = record { items = map (developer_given given) d.developer.items } }

-- a data message, changed
abbrev pub data_changed : List (Option ℕ) → Tally → LentData → Item
data_changed given t m =
    Data m.local None
    (content_changed given t m.definition.global m.definition.arch m.definition.fields.items m.content)

-- what is written of an item
abbrev pub item_joined : List (Option ℕ) → Tally → LentItem → List Item
item_joined given t (DefinesHere d) = Defines (definition_given given d) ∷ []
item_joined given t (DataHere m) =
    if stays t (message_here m) then data_changed given t m ∷ [] else []

-- what is counted after it
abbrev pub counted : Tally → LentItem → Tally
counted t (DefinesHere d) = t
counted t (DataHere m) = if stays t (message_here m) then tally_after t (message_here m) else t

-- every definition, and the data messages that stay, changed
abbrev pub part_items : List (Option ℕ) → Tally → List LentItem → List Item
part_items given t [] = []
part_items given t (item ∷ items) =
    item_joined given t item ++ part_items given (counted t item) items

-- ---- all parts

-- an event of the timer, with its definition
abbrev pub event_items : Option ℕ → ℕ → List Item
event_items None type = []
event_items (Some time) type =
    Defines event_definition ∷ Data 0 None (event_content time type) ∷ []

-- a part, with the timer started before it and stopped after it where it stood between two parts
abbrev pub one_items : List (Option ℕ) → Tally → Bool → List Item → List Item
one_items given t followed own =
    event_items (start_due t.follows (span_of t.keeps_laps (messages_of own))) 0
    ++ (part_items given t (items_lent own)
    ++ event_items (stop_due followed (span_of t.keeps_laps (messages_of own))) 4)

-- the items of each part in turn, after parts whose makers are `makers`
abbrev pub items_after : List (Option Maker) → Tally → List Part → List Item
items_after makers t [] = []
items_after makers t (part ∷ parts) =
    one_items (declared_past makers (messages_of part.file.items)).given (tally_before t (messages_of part.file.items))
    (is_followed (map (λ p. messages_of p.file.items) parts)) part.file.items
    ++ items_after (declared_past makers (messages_of part.file.items)).makers
    (next_tally (tally_past (tally_before t (messages_of part.file.items)) (messages_of part.file.items))) parts

abbrev pub own_messages : List Part → List (List Message)
own_messages parts = map (λ part. messages_of part.file.items) parts

abbrev pub parts_items : List Part → List Item
parts_items parts = items_after no_makers (first_tally (laps_stay (own_messages parts))) parts

-- the sport, with its definition
abbrev pub sport_items : Option SportStated → List Item
sport_items None = []
sport_items (Some s) = Defines sport_definition ∷ Data 0 None (sport_content s) ∷ []

abbrev pub joined_items : List Part → List Item
joined_items parts = parts_items parts ++ sport_items (sport_due (own_messages parts))

-- the file of them, with the frame of the first
abbrev pub joined_file : Part → List Part → FileValue
joined_file first others =
    record { frame = first.file.frame; items = joined_items (first ∷ others) }
