-- Messages: data messages read under their definitions and with their times (FIT protocol, "Records").
use Rattle.std.specs.Prelude.{ℕ, ◌+◌, ◌-◌, ◌%◌, ◌^◌, List, [], ◌∷◌, ◌++◌, take, drop, Option, Some, None, unwrap_or, option_map, option_and_then, option_to_list, ◌==◌, ◌&&◌, if◌then◌else◌}
use Rattle.std.specs.Option.{option_or}
use Rattle.fit_base.specs.declared.order.Arch.{Arch}
use Rattle.fit_base.specs.Value.{Values, Numbers, values_of}
use Rattle.fit_grammar.specs.declared.definition.FieldDefinition.{FieldDefinition}
use Rattle.fit_grammar.specs.declared.definition.DeveloperFieldDefinition.{DeveloperFieldDefinition}
use Rattle.fit_grammar.specs.declared.definition.Definition.{Definition}
use Rattle.fit_grammar.specs.Format.Item.{Item, Defines, Data, fields_size}
use Rattle.fit_grammar.specs.Format.Records.{in_force}

-- a field of a message: its number, its base type byte and its values
pub record MessageField : Type 0 where
  pub number : ℕ
  pub base : ℕ
  pub values : Values

-- a developer field of a message: its developer data index, its number, and its bytes, which are not interpreted, with their order
pub record MessageDeveloperField : Type 0 where
  pub index : ℕ
  pub number : ℕ
  pub arch : Arch
  pub bytes : List ℕ

-- a message is the same whatever architecture its fields and whatever header it were written under
pub record Message : Type 0 where
  pub global : ℕ
  pub fields : List MessageField
  pub developer : List MessageDeveloperField

-- the fields of a data message's content, one after another
abbrev pub fields_of : Arch → List FieldDefinition → List ℕ → List MessageField
fields_of arch [] content = []
fields_of arch (field ∷ fields) content =
    record {
      number = field.number;
      base = field.base;
      values =
          values_of (record { base = field.base; arch = arch; bytes = take field.size content });
    } ∷ fields_of arch fields (drop field.size content)

-- the developer fields of the content, one after another; they come after the fields
abbrev pub developer_of : Arch → List DeveloperFieldDefinition → List ℕ
    → List MessageDeveloperField
developer_of arch [] content = []
developer_of arch (field ∷ fields) content =
    record {
      index = field.index;
      number = field.number;
      arch = arch;
      bytes = take field.size content;
    } ∷ developer_of arch fields (drop field.size content)

-- the least number that is not below the time before and equals the offset modulo 32, wrapped at 2^32
abbrev pub next_time : ℕ → ℕ → ℕ
next_time before offset = (before + (offset + 32 - before % 32) % 32) % 2 ^ 32

-- field 253 of a compressed timestamp, which comes first
abbrev pub time_field : ℕ → MessageField
time_field time = record { number = 253; base = 0x86; values = Numbers (time ∷ []) }

abbrev pub time_fields : Option ℕ → List MessageField
time_fields time = option_to_list (option_map time_field time)

-- the message of a data message's content under its definition; the time is that of its compressed timestamp, if it has one
abbrev pub message_under : Definition → Option ℕ → List ℕ → Message
message_under d time content =
    record {
      global = d.global;
      fields = time_fields time ++ fields_of d.arch d.fields.items content;
      developer = developer_of d.arch d.developer.items (drop (fields_size d) content);
    }

-- the time in the values of a field: one number, and not the invalid one
abbrev pub time_in : Values → Option ℕ
time_in (Numbers (time ∷ [])) = if time == 0xFFFFFFFF then None else Some time
time_in _ = None

-- the time that a field states, if it is field 253 of base type 0x86
abbrev pub stated_by : MessageField → Option ℕ
stated_by field =
    if (field.number == 253) && (field.base == 0x86) then time_in field.values else None

-- the first field 253 of base type 0x86 with one value that is not invalid
abbrev pub time_stated : List MessageField → Option ℕ
time_stated [] = None
time_stated (field ∷ fields) = option_or (stated_by field) (time_stated fields)

-- the time of a compressed timestamp, given the time before it
abbrev pub compressed_time : ℕ → Option ℕ → Option ℕ
compressed_time before offset = option_map (next_time before) offset

-- the message of an item after the items `before`, with `time` the last time; a definition has none
abbrev pub message_at : List Item → ℕ → Item → Option Message
message_at before time (Defines d) = None
message_at before time (Data local offset content) =
    option_map (λ d. message_under d (compressed_time time offset) content) (in_force before local)

-- the time that an item gives: that of its compressed timestamp, or else the one that its message states
abbrev pub time_given : List Item → ℕ → Item → Option ℕ
time_given before time (Defines d) = None
time_given before time (Data local (Some offset) content) = Some (next_time time offset)
time_given before time (Data local None content) =
    option_and_then (λ m. time_stated m.fields) (message_at before time (Data local None content))

-- the messages of items after the items `before`, starting from the time before them
abbrev pub messages_after : List Item → ℕ → List Item → List Message
messages_after before time [] = []
messages_after before time (item ∷ items) =
    option_to_list (message_at before time item)
    ++ messages_after (before ++ item ∷ []) (unwrap_or (time_given before time item) time) items

-- the messages of a row of items; before the first time, the time is 0
abbrev pub messages_of : List Item → List Message
messages_of items = messages_after [] 0 items
