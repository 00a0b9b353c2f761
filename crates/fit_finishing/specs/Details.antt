-- What closing messages that are added have in place of those of a recorder, or besides: the sport of the file and the effort in the session,
-- the number of sessions in the activity message.
use Rattle.std.specs.Prelude.{◌≡◌, ℕ, ◌+◌, ◌≤◌, ◌<◌, List, [], ◌∷◌, ◌++◌, take, drop, length, map, ◌==◌, if◌then◌else◌}
use Rattle.fit_base.specs.declared.base.BaseType.TheVariants.{Enum, Uint16}
use Rattle.fit_grammar.specs.Format.Item.{native_definition}
use Rattle.fit_grammar.specs.Format.Message.{Message}
use Rattle.fit_activity.specs.Messages.Numbers.{activity_global, session_global}
use Rattle.fit_activity.specs.Messages.ProfileField.{ProfileMessage, profile_field, as_content, as_message}
use Rattle.fit_activity.specs.Messages.SpokenMessage.{SpokenMessage}
use Rattle.fit_activity.specs.Messages.MessageBytes.{spelled}
use Rattle.fit_finishing.specs.declared.details.Details.{Details}
use Rattle.fit_finishing.specs.declared.effort.EffortSummary.{EffortSummary}
use Rattle.fit_finishing.specs.declared.sport.SportStated.{SportStated}
use Rattle.fit_finishing.specs.Effort.{effort_message}

-- the fields sport and sub_sport of a session, and num_sessions of an activity message
abbrev pub sport_message : SportStated → ProfileMessage
sport_message s =
    record {
      local = 8;
      global = session_global;
      fields = profile_field 5 Enum s.sport ∷ profile_field 6 Enum s.sub_sport ∷ [];
    }

abbrev pub sessions_message : ℕ → ProfileMessage
sessions_message sessions =
    record {
      local = 9;
      global = activity_global;
      fields = profile_field 1 Uint16 sessions ∷ [];
    }

-- a field, or the one of the same number among these; and a message with these fields in place of its own
abbrev pub in_place : {A : Type 0} → (A → ℕ) → List A → A → A
in_place number [] field = field
in_place number (new ∷ others) field =
    if number field == number new then new else in_place number others field

abbrev pub with_fields : ProfileMessage → Message → Message
with_fields part m =
    record m { fields = map (in_place (λ field. field.number) (as_message part).fields) m.fields }

-- a message with these fields after its own
abbrev pub with_more : ProfileMessage → Message → Message
with_more part m = record m { fields = m.fields ++ (as_message part).fields }

-- a session and an activity message with the details; any other message as it is
abbrev pub with_details : Details → Message → Message
with_details details m =
    if m.global == session_global
    then with_more (effort_message details.effort) (with_fields (sport_message details.sport) m)
    else if m.global == activity_global then with_fields (sessions_message details.sessions) m
    else m

-- ---- the same of messages as they are handed on

-- the place of sport in the content of a session, and that of num_sessions in an activity message
abbrev pub sport_place : ℕ
sport_place = 12

abbrev pub sessions_place : ℕ
sessions_place = 8

abbrev pub with_bytes : ℕ → List ℕ → List ℕ → List ℕ
with_bytes place bytes content =
    take place content ++ (bytes ++ drop (place + length bytes) content)

abbrev pub restated : ℕ → ProfileMessage → SpokenMessage → SpokenMessage
restated place part m = record m { content = with_bytes place (as_content part) m.content }

abbrev pub longer : EffortSummary → SpokenMessage → SpokenMessage
longer effort m =
    let more = spelled (effort_message effort) in
    record {
      definition = native_definition m.definition.local m.definition.arch m.definition.global
          (m.definition.fields.items ++ more.definition.fields.items);
      content = m.content ++ more.content;
    }

abbrev pub session_with : Details → SpokenMessage → SpokenMessage
session_with details m =
    longer details.effort (restated sport_place (sport_message details.sport) m)

abbrev pub activity_with : Details → SpokenMessage → SpokenMessage
activity_with details m = restated sessions_place (sessions_message details.sessions) m

abbrev pub spoken_with : Details → SpokenMessage → SpokenMessage
spoken_with details m =
    if m.definition.global == session_global then session_with details m
    else if m.definition.global == activity_global then activity_with details m
    else m

abbrev pub speech_with : Details → List SpokenMessage → List SpokenMessage
speech_with details speech = map (spoken_with details) speech

-- its local number is below 16, and it has bytes at these places
pub record CanBeDetailed (m : SpokenMessage) : Type 0 where
  pub local : m.definition.local < 16
  pub short : length m.content ≤ 41
  pub session : m.definition.global ≡ session_global → sport_place + 2 ≤ length m.content
  pub activity : m.definition.global ≡ activity_global → sessions_place + 2 ≤ length m.content
