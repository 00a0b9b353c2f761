-- A message whose times are moved.
use Rattle.std.specs.Prelude.{ℕ, ◌+◌, ◌-◌, map, Bool, true, ◌==◌, nat_lt, nat_le, if◌then◌else◌, Option, Some, None, is_some, unwrap_or}
use Rattle.std.specs.List.{list_all}
use Rattle.fit_base.specs.Value.{Values, Numbers, Raw}
use Rattle.fit_grammar.specs.Format.Message.{Message, MessageField}
use Rattle.fit_shifting.specs.declared.shift.Shift.{Shift}
use Rattle.fit_shifting.specs.declared.shift.Shift.TheVariants.{Later, Earlier}
use Rattle.fit_shifting.specs.Times.{holds_time}

-- a time, so many seconds later or earlier; none if it would be below 0, or 4,294,967,295 or more
abbrev pub by_seconds : Shift → ℕ → Option ℕ
by_seconds (Later seconds) time =
    if nat_lt (time + seconds) 0xFFFFFFFF then Some (time + seconds) else None
by_seconds (Earlier seconds) time = if nat_le seconds time then Some (time - seconds) else None

-- the same, where 4,294,967,295 is the invalid value, which stays
abbrev pub time_moved : Shift → ℕ → Option ℕ
time_moved shift time = if time == 0xFFFFFFFF then Some time else by_seconds shift time

-- the shift by which one time becomes another
abbrev pub shift_between : ℕ → ℕ → Shift
shift_between from to = if nat_lt from to then Later (to - from) else Earlier (from - to)

-- ---- which messages can be moved

abbrev pub can_move_time : Shift → ℕ → Bool
can_move_time shift time = is_some (time_moved shift time)

abbrev pub can_move_values : Shift → Values → Bool
can_move_values shift (Numbers times) = list_all (can_move_time shift) times
can_move_values shift (Raw bytes) = true

abbrev pub can_move_field : Shift → ℕ → MessageField → Bool
can_move_field shift message field =
    if holds_time message field.number field.base
    then can_move_values shift field.values else true

-- each time of the message can be moved
abbrev pub can_move : Shift → Message → Bool
can_move shift m = list_all (can_move_field shift m.global) m.fields

-- ---- the message then

-- a time that cannot be moved stays
abbrev pub moved_time : Shift → ℕ → ℕ
moved_time shift time = unwrap_or (time_moved shift time) time

-- a field whose size is no multiple of four bytes has no numbers, and stays
abbrev pub moved_values : Shift → Values → Values
moved_values shift (Numbers times) = Numbers (map (moved_time shift) times)
moved_values shift (Raw bytes) = Raw bytes

abbrev pub moved_field : Shift → ℕ → MessageField → MessageField
moved_field shift message field =
    record {
      number = field.number;
      base = field.base;
      values =
          if holds_time message field.number field.base
          then moved_values shift field.values else field.values;
    }

-- the same message with its times moved
abbrev pub moved : Shift → Message → Message
moved shift m =
    record {
      global = m.global;
      fields = map (moved_field shift m.global) m.fields;
      developer = m.developer;
    }
