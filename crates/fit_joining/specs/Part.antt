-- What becomes of the messages of one part of an activity.
use Rattle.std.specs.Prelude.{ℕ, ◌+◌, ◌-◌, nat_le, Bool, true, false, not, List, [], ◌∷◌, map, min, Option, Some, None, ◌==◌, ◌&&◌, ◌||◌, if◌then◌else◌}
use Rattle.std.specs.Option.{option_or}
use Rattle.fit_base.specs.declared.base.BaseType.TheVariants.{Uint32}
use Rattle.fit_base.specs.Value.{Values, Numbers}
use Rattle.fit_grammar.specs.Format.Message.{Message, MessageField, MessageDeveloperField}
use Rattle.fit_grammar.specs.Format.OneValue.{value_of}
use Rattle.fit_joining.specs.declared.tally.Tally.{Tally}
use Rattle.fit_joining.specs.Makers.{index_in}

-- ---- which messages stay

-- The file_id is that of the first part. Sessions and activity messages sum up one part, and so do laps, unless laps stay.
abbrev pub stays : Tally → Message → Bool
stays t m =
    if m.global == 0 then not t.follows
    else if m.global == 18 then false
    else if m.global == 34 then false
    else if m.global == 19 then t.keeps_laps
    else true

-- ---- which fields change

-- the distance of a record, since its part began
abbrev pub is_distance : ℕ → ℕ → ℕ → Bool
is_distance message number base = (base == 0x86) && ((message == 20) && (number == 5))

-- the number of a lap, its message_index
abbrev pub is_lap_number : ℕ → ℕ → ℕ → Bool
is_lap_number message number base = (base == 0x84) && ((message == 19) && (number == 254))

-- the developer_data_index of a message developer_data_id, and of a field_description
abbrev pub is_index : ℕ → ℕ → ℕ → Bool
is_index message number base =
    (base == 0x02) && (((message == 207) && (number == 3)) || ((message == 206) && (number == 0)))

-- a distance so much further; 4,294,967,295 is invalid, and stays
abbrev pub further : ℕ → ℕ → ℕ
further begun_at distance = min (distance + begun_at) 0xFFFFFFFF

-- a field that has one number gets another
abbrev pub with_number : (ℕ → ℕ) → Values → Values
with_number f (Numbers (n ∷ [])) = Numbers (f n ∷ [])
with_number f values = values

abbrev pub changed_values : List (Option ℕ) → Tally → ℕ → ℕ → ℕ → Values → Values
changed_values given t message number base values =
    if is_distance message number base then with_number (further t.begun_at) values
    else if is_lap_number message number base then with_number (λ n. t.laps) values
    else if is_index message number base then with_number (index_in given) values
    else values

abbrev pub changed_field : List (Option ℕ) → Tally → ℕ → MessageField → MessageField
changed_field given t message field =
    record {
      number = field.number;
      base = field.base;
      values = changed_values given t message field.number field.base field.values;
    }

-- a developer field, with its index in the joined file
abbrev pub changed_developer : List (Option ℕ) → MessageDeveloperField → MessageDeveloperField
changed_developer given field =
    record {
      index = index_in given field.index;
      number = field.number;
      arch = field.arch;
      bytes = field.bytes;
    }

-- The same message with its distance so much further, its number of a lap in turn, and developer data indices those of the joined file,
-- given `given`.
abbrev pub changed : List (Option ℕ) → Tally → Message → Message
changed given t m =
    record {
      global = m.global;
      fields = map (changed_field given t m.global) m.fields;
      developer = map (changed_developer given) m.developer;
    }

-- ---- where its distances begin

-- the distance of a record
abbrev pub distance_of : Message → Option ℕ
distance_of m = if m.global == 20 then value_of Uint32 5 m else None

abbrev pub first_distance : List Message → Option ℕ
first_distance [] = None
first_distance (m ∷ messages) = option_or (distance_of m) (first_distance messages)

-- a part begins where those before it ended, after at least 100 m, or up to 1 km further
abbrev pub goes_on_at : ℕ → ℕ → Bool
goes_on_at reached distance =
    nat_le 10000 reached && (nat_le reached distance && nat_le (distance - reached) 100000)

abbrev pub tally_by : Tally → Option ℕ → Tally
tally_by t None = t
tally_by t (Some distance) = if goes_on_at t.reached distance then record t { begun_at = 0 } else t

-- Before a part. If it begins where those before it ended, its odometer went on, and its distances stay as they are.
abbrev pub tally_before : Tally → List Message → Tally
tally_before t own = tally_by t (first_distance own)

-- ---- the messages of a part

abbrev pub reached_by : Tally → Option ℕ → ℕ
reached_by t None = t.reached
reached_by t (Some distance) = further t.begun_at distance

-- what is counted after a message that stays: how far a record went, and the laps
abbrev pub tally_after : Tally → Message → Tally
tally_after t m =
    if m.global == 19 then record t { laps = min (t.laps + 1) 65535 }
    else if m.global == 20 then record t { reached = reached_by t (distance_of m) }
    else t

-- those that stay, changed, in their order
abbrev pub part : List (Option ℕ) → Tally → List Message → List Message
part given t [] = []
part given t (m ∷ messages) =
    if stays t m then changed given t m ∷ part given (tally_after t m) messages
    else part given t messages

-- what is counted after them
abbrev pub tally_past : Tally → List Message → Tally
tally_past t [] = t
tally_past t (m ∷ messages) =
    if stays t m then tally_past (tally_after t m) messages else tally_past t messages
