-- Which messages a file lacks at its beginning and at its end, and the items that they are added as.
use Rattle.std.specs.Prelude.{ℕ, ◌+◌, Bool, false, List, [], ◌∷◌, None, min, not, nat_le, nat_lt, count_by, map, flat_map, ◌==◌, ◌&&◌, ◌||◌, if◌then◌else◌}
use Rattle.std.specs.List.{filter}
use Rattle.fit_grammar.specs.Format.Item.{Item, Defines, Data}
use Rattle.fit_grammar.specs.Format.Message.{Message}
use Rattle.fit_activity.specs.Rides.Recording.{Recorded, is_lap, start_time}
use Rattle.fit_activity.specs.Rides.Stretch.{lap_of}
use Rattle.fit_activity.specs.Rides.Timer.{runs_now}
use Rattle.fit_activity.specs.Files.Activity.{begins_with_file_id, messages_counted}
use Rattle.fit_activity.specs.Messages.ProfileField.{as_message}
use Rattle.fit_activity.specs.Messages.ProfileMessage.{file_id_message}
use Rattle.fit_activity.specs.Messages.SpokenMessage.{SpokenMessage}
use Rattle.fit_activity.specs.Messages.MessageBytes.{message_stated}
use Rattle.fit_activity.specs.Messages.RideMessages.{closing_with}
use Rattle.fit_finishing.specs.declared.closing.Lacks.{Lacks}
use Rattle.fit_finishing.specs.declared.details.Details.{Details}
use Rattle.fit_finishing.specs.Details.{with_details}
use Rattle.fit_finishing.specs.Effort.{effort_of}
use Rattle.fit_finishing.specs.Sports.{sport_heard}

-- the ride went on after its last lap: the timer runs, or time went by
abbrev pub goes_on : List Recorded → Bool
goes_on list = runs_now list || nat_lt 0 (lap_of list).stretch.elapsed

-- A file lacks the lap that is open if it has no lap; or if it has no session, each of its laps is in the list, and the ride went on.
abbrev pub lacks_lap : ℕ → ℕ → ℕ → Bool → Bool
lacks_lap laps sessions heard went_on =
    (laps == 0) || ((sessions == 0) && (nat_le laps heard && went_on))

-- It lacks a file_id if its first message is none; a stop if its timer runs and it has no session; a session and an activity message if
-- it has none.
abbrev pub lacks_in : List Message → List Recorded → Lacks
lacks_in messages list =
    record {
      file_id = not (begins_with_file_id messages);
      stop = runs_now list && (messages_counted 18 messages == 0);
      lap =
          lacks_lap (messages_counted 19 messages) (messages_counted 18 messages) (count_by is_lap list)
          (goes_on list);
      session = messages_counted 18 messages == 0;
      activity = messages_counted 34 messages == 0;
    }

-- by its global number: file_id, event, lap, session, activity
abbrev pub is_lacking : Lacks → Message → Bool
is_lacking lacks m =
    if m.global == 0 then lacks.file_id
    else if m.global == 21 then lacks.stop
    else if m.global == 19 then lacks.lap
    else if m.global == 18 then lacks.session
    else if m.global == 34 then lacks.activity
    else false

-- how many laps and sessions the finished file has: its own, and the one that is added
abbrev pub added_one : Bool → ℕ
added_one lacking = if lacking then 1 else 0

abbrev pub laps_finished : Lacks → List Message → ℕ
laps_finished lacks messages = messages_counted 19 messages + added_one lacks.lap

abbrev pub sessions_finished : Lacks → List Message → ℕ
sessions_finished lacks messages = messages_counted 18 messages + added_one lacks.session

-- their number in a message, which has two bytes for it; 65535 stands for no number
abbrev pub number_stated : ℕ → ℕ
number_stated number = min number 65535

-- what the added ones state besides: the sport of the file, the effort of the list, and how many sessions there are
abbrev pub details_of : List Message → List Recorded → Details
details_of messages list =
    record {
      sport = sport_heard messages;
      effort = effort_of list;
      sessions = number_stated (sessions_finished (lacks_in messages list) messages);
    }

-- the file_id of a recording from the start of the list on, without a serial number
abbrev pub opening : List Recorded → List Message
opening list = as_message (file_id_message (start_time list) 0) ∷ []

-- the closing messages of the list, with so many laps in the session, and with these details
abbrev pub closing_detailed : ℕ → Details → List Recorded → List Message
closing_detailed laps details list = map (with_details details) (closing_with laps list)

-- the first message and the closing ones of the list, without those that the file has; the session has the laps of the finished file
abbrev pub opening_for : List Message → List Recorded → List Message
opening_for messages list = filter (is_lacking (lacks_in messages list)) (opening list)

abbrev pub closing_for : List Message → List Recorded → List Message
closing_for messages list =
    let lacks = lacks_in messages list in
    filter (is_lacking lacks)
    (closing_detailed (number_stated (laps_finished lacks messages)) (details_of messages list) list)

-- a message after its definition, if it is lacking
abbrev pub with_definition : SpokenMessage → List Item
with_definition m = Defines m.definition ∷ Data m.definition.local None m.content ∷ []

abbrev pub added_for : Lacks → SpokenMessage → List Item
added_for lacks m = if is_lacking lacks (message_stated m) then with_definition m else []

abbrev pub added_items : Lacks → List SpokenMessage → List Item
added_items lacks speech = flat_map (added_for lacks) speech
