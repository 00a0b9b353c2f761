-- What stands between two parts: the timer, from the last entry of one to the first of the next.
use Rattle.std.specs.Prelude.{ℕ, Bool, true, false, List, [], ◌∷◌, Option, Some, None, ◌==◌, ◌||◌, ◌&&◌, if◌then◌else◌}
use Rattle.std.specs.List.{fold}
use Rattle.std.specs.Option.{option_or}
use Rattle.fit_base.specs.declared.base.BaseType.TheVariants.{Enum, Uint32}
use Rattle.fit_grammar.specs.Format.Message.{Message}
use Rattle.fit_grammar.specs.Format.OneValue.{value_of}
use Rattle.fit_grammar.specs.Calls.LentField.{field_with}
use Rattle.fit_joining.specs.declared.span.Span.{Span}

-- ---- the entries of a part

-- a start of the timer is true; each kind of stop (stop, stop_all, stop_disable, stop_disable_all) is false
abbrev pub timer_kind : ℕ → Option Bool
timer_kind type =
    if type == 0 then Some true
    else if (type == 1) || ((type == 4) || ((type == 8) || (type == 9))) then Some false
    else None

abbrev pub kind_by : Option ℕ → Option ℕ → Option Bool
kind_by (Some event) (Some type) = if event == 0 then timer_kind type else None
kind_by _ _ = None

-- whether an event starts the timer or stops it
abbrev pub timer_event : Message → Option Bool
timer_event m = if m.global == 21 then kind_by (value_of Enum 0 m) (value_of Enum 1 m) else None

-- the time of a record, of an event, and of a lap, if laps stay
abbrev pub entry_time : Bool → Message → Option ℕ
entry_time keeps_laps m =
    if (m.global == 20) || ((m.global == 21) || ((m.global == 19) && keeps_laps))
    then value_of Uint32 253 m else None

-- ---- the first and the last of them

abbrev pub no_span : Span
no_span = record { begins = None; ends = None; first = None; last = None }

abbrev pub span_after : Bool → Span → Message → Span
span_after keeps_laps s m =
    record {
      begins = option_or s.begins (timer_event m);
      ends = option_or (timer_event m) s.ends;
      first = option_or s.first (entry_time keeps_laps m);
      last = option_or (entry_time keeps_laps m) s.last;
    }

abbrev pub span_of : Bool → List Message → Span
span_of keeps_laps messages = fold (span_after keeps_laps) no_span messages

-- ---- the events that are added

-- event: timestamp, event timer, event_type
abbrev pub timer_message : ℕ → ℕ → Message
timer_message time type =
    record {
      global = 21;
      fields = field_with 253 Uint32 time ∷ field_with 0 Enum 0 ∷ field_with 1 Enum type ∷ [];
      developer = [];
    }

abbrev pub event_at : Option ℕ → ℕ → List Message
event_at None type = []
event_at (Some time) type = timer_message time type ∷ []

-- A part that follows another starts the timer at its first entry, unless its first event does.
abbrev pub start_by : Option Bool → Option ℕ → Option ℕ
start_by (Some true) time = None
start_by begins time = time

abbrev pub start_due : Bool → Span → Option ℕ
start_due follows s = if follows then start_by s.begins s.first else None

-- A part that another follows stops it at its last entry, by stop_all, unless its last event does.
abbrev pub stop_by : Option Bool → Option ℕ → Option ℕ
stop_by (Some false) time = None
stop_by ends time = time

abbrev pub stop_due : Bool → Span → Option ℕ
stop_due is_followed s = if is_followed then stop_by s.ends s.last else None
