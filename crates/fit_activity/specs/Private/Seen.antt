-- What a pass over messages keeps of the messages that it has seen.
use Rattle.std.specs.Prelude.{ℕ, ◌+◌, Bool, true, false, List, [], ◌∷◌, Result, Ok, Err, not, ◌==◌, ◌&&◌, if◌then◌else◌}
use Rattle.fit_base.specs.declared.base.BaseType.TheVariants.{Enum, Uint32}
use Rattle.fit_grammar.specs.Format.Message.{Message}
use Rattle.fit_activity.specs.Messages.Numbers.{activity_global, file_id_global, lap_global, record_global, session_global}
use Rattle.fit_activity.specs.declared.activity.Summary.{Summary}
use Rattle.fit_activity.specs.declared.activity.ActivityFault.{ActivityFault}
use Rattle.fit_activity.specs.declared.activity.ActivityFault.TheVariants.{NoFileId, NotActivity, NoLap, NoSession, NoActivity}
use Rattle.fit_activity.specs.declared.activity.seen.Seen.{Seen}
use Rattle.fit_activity.specs.declared.activity.seen.SessionValues.{SessionValues}
use Rattle.fit_grammar.specs.Format.OneValue.{value_of}
use Rattle.fit_activity.specs.Files.Activity.{has_global, is_activity_type, begins_with_file_id, is_activity_file, messages_counted, session_value}

-- the values of a session that go into a summary
abbrev pub session_values : Message → SessionValues
session_values m =
    record {
      start = value_of Uint32 2 m;
      elapsed_ms = value_of Uint32 7 m;
      timer_ms = value_of Uint32 8 m;
      distance_cm = value_of Uint32 9 m;
    }

abbrev pub is_some_message : List Message → Bool
is_some_message [] = false
is_some_message (m ∷ messages) = true

-- the values of the first session among the messages
abbrev pub first_session_values : List Message → SessionValues
first_session_values messages =
    record {
      start = session_value 2 messages;
      elapsed_ms = session_value 7 messages;
      timer_ms = session_value 8 messages;
      distance_cm = session_value 9 messages;
    }

-- what is kept of messages
abbrev pub seen_in_messages : List Message → Seen
seen_in_messages messages =
    record {
      begun = is_some_message messages;
      file_id = begins_with_file_id messages;
      activity_file = is_activity_file messages;
      records = messages_counted record_global messages;
      laps = messages_counted lap_global messages;
      sessions = messages_counted session_global messages;
      activities = messages_counted activity_global messages;
      session = first_session_values messages;
    }

-- the same with one more message: what the first message states, what the first session states, and the counts
abbrev pub first_seen : Seen → Message → Seen
first_seen seen m =
    record seen {
      begun = true;
      file_id = if seen.begun then seen.file_id else has_global file_id_global m;
      activity_file =
          if seen.begun then seen.activity_file else is_activity_type (value_of Enum 0 m);
    }

abbrev pub session_seen : Seen → Message → Seen
session_seen seen m =
    record seen {
      session =
          if (seen.sessions == 0) && has_global session_global m
          then session_values m else seen.session;
    }

abbrev pub counted : Seen → ℕ → Seen
counted seen global =
    record seen {
      records = seen.records + (if global == record_global then 1 else 0);
      laps = seen.laps + (if global == lap_global then 1 else 0);
      sessions = seen.sessions + (if global == session_global then 1 else 0);
      activities = seen.activities + (if global == activity_global then 1 else 0);
    }

abbrev pub seen_with : Seen → Message → Seen
seen_with seen m = counted (session_seen (first_seen seen m) m) m.global

-- the first fault, else the summary, from what is kept
abbrev pub activity_seen : Seen → Result Summary ActivityFault
activity_seen seen =
    if not seen.file_id then Err NoFileId
    else if not seen.activity_file then Err NotActivity
    else if seen.laps == 0 then Err NoLap
    else if seen.sessions == 0 then Err NoSession
    else if seen.activities == 0 then Err NoActivity
    else Ok (record {
      records = seen.records;
      laps = seen.laps;
      sessions = seen.sessions;
      start = seen.session.start;
      elapsed_ms = seen.session.elapsed_ms;
      timer_ms = seen.session.timer_ms;
      distance_cm = seen.session.distance_cm;
    })
