-- When a file is an activity, and what its first session states (FIT profile: activity files).
use Rattle.std.specs.Prelude.{ℕ, Bool, false, List, [], ◌∷◌, Option, Some, None, Result, Ok, Err, ◌==◌, not, count_by, find, option_and_then, if◌then◌else◌}
use Rattle.fit_base.specs.declared.base.BaseType.TheVariants.{Enum, Uint32}
use Rattle.fit_grammar.specs.Format.Message.{Message}
use Rattle.fit_grammar.specs.Format.OneValue.{value_of}
use Rattle.fit_activity.specs.Messages.Numbers.{activity_file_type, activity_global, file_id_global, lap_global, record_global, session_global}
use Rattle.fit_activity.specs.declared.activity.Summary.{Summary}
use Rattle.fit_activity.specs.declared.activity.ActivityFault.{ActivityFault}
use Rattle.fit_activity.specs.declared.activity.ActivityFault.TheVariants.{NoFileId, NotActivity, NoLap, NoSession, NoActivity}

abbrev pub has_global : ℕ → Message → Bool
has_global global m = m.global == global

-- the first message is a file_id
abbrev pub begins_with_file_id : List Message → Bool
begins_with_file_id [] = false
begins_with_file_id (m ∷ messages) = has_global file_id_global m

-- the value is the type of an activity
abbrev pub is_activity_type : Option ℕ → Bool
is_activity_type (Some value) = value == activity_file_type
is_activity_type None = false

abbrev pub is_activity_file : List Message → Bool
is_activity_file [] = false
is_activity_file (m ∷ messages) = is_activity_type (value_of Enum 0 m)

-- how many messages have this global number
abbrev pub messages_counted : ℕ → List Message → ℕ
messages_counted global messages = count_by (has_global global) messages

-- a value of the first session
abbrev pub session_value : ℕ → List Message → Option ℕ
session_value number messages =
    option_and_then (value_of Uint32 number) (find (has_global session_global) messages)

abbrev pub summary_of : List Message → Summary
summary_of messages =
    record {
      records = messages_counted record_global messages;
      laps = messages_counted lap_global messages;
      sessions = messages_counted session_global messages;
      start = session_value 2 messages;
      elapsed_ms = session_value 7 messages;
      timer_ms = session_value 8 messages;
      distance_cm = session_value 9 messages;
    }

-- the first fault of the messages, else the summary
abbrev pub activity_in : List Message → Result Summary ActivityFault
activity_in messages =
    if not (begins_with_file_id messages) then Err NoFileId
    else if not (is_activity_file messages) then Err NotActivity
    else if messages_counted lap_global messages == 0 then Err NoLap
    else if messages_counted session_global messages == 0 then Err NoSession
    else if messages_counted activity_global messages == 0 then Err NoActivity
    else Ok (summary_of messages)

-- the number of a fault
abbrev pub activity_fault_code : ActivityFault → ℕ
activity_fault_code NoFileId = 1
activity_fault_code NotActivity = 2
activity_fault_code NoLap = 3
activity_fault_code NoSession = 4
activity_fault_code NoActivity = 5
