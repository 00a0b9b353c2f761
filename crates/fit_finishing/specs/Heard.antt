-- The list that the messages of a file are heard as, message by message.
use Rattle.std.specs.Prelude.{ℕ, ◌+◌, Bool, false, List, [], ◌∷◌, ◌++◌, Option, Some, None, not, if◌then◌else◌}
use Rattle.std.specs.List.{fold}
use Rattle.std.specs.Option.{is_none}
use Rattle.fit_grammar.specs.Format.Message.{Message}
use Rattle.fit_activity.specs.declared.recording.start.Start.{Start}
use Rattle.fit_activity.specs.declared.recording.start.Sport.{Sport}
use Rattle.fit_activity.specs.declared.recording.start.Sport.TheVariants.{Generic}
use Rattle.fit_activity.specs.declared.recording.entry.Entry.{Entry}
use Rattle.fit_activity.specs.declared.recording.entry.Entry.TheVariants.{Lap, Pause, Resume}
use Rattle.fit_activity.specs.Rides.Recording.{Recorded, Started, Added, entry_time, is_lap}
use Rattle.fit_activity.specs.Rides.Timer.{runs_now}
use Rattle.fit_activity.specs.Rides.Refusal.{start_refusal, refusal_of}
use Rattle.fit_finishing.specs.Entries.{entry_in}

-- the list so far, which is empty before the start; the end of a lap that no entry followed yet; and how many entries were left out
pub record Heard : Type 0 where
  pub list : List Recorded
  pub lap : Option ℕ
  pub left_out : ℕ

abbrev pub nothing_heard : Heard
nothing_heard = record { list = []; lap = None; left_out = 0 }

abbrev pub with_one_left_out : Heard → Heard
with_one_left_out h = record h { left_out = h.left_out + 1 }

-- an entry that no rule refuses is taken, any other is left out
abbrev pub added : Entry → Heard → Heard
added e h =
    if is_none (refusal_of h.list e) then record h { list = h.list ++ Added e ∷ [] }
    else with_one_left_out h

-- the lap that waits is taken
abbrev pub settled_with : Option ℕ → Heard → Heard
settled_with None h = h
settled_with (Some time) h = added (Lap time) (record h { lap = None })

abbrev pub settled : Heard → Heard
settled h = settled_with h.lap h

-- a resume of a running timer and a pause of a stopped one leave the ride as it is
abbrev pub is_idle : List Recorded → Entry → Bool
is_idle list (Pause time) = not (runs_now list)
is_idle list (Resume time) = runs_now list
is_idle list _ = false

-- A lap waits until an entry follows it: the last lap of a file ends the ride, and no lap begins there.
abbrev pub followed_by : Entry → Heard → Heard
followed_by (Lap time) h = record (settled h) { lap = Some time }
followed_by e h = if is_idle h.list e then h else added e (settled h)

-- a ride starts with its first sample or timer event
abbrev pub start_by : Sport → Entry → Start
start_by sport e = record { time = entry_time e; serial = 0; sport = sport }

abbrev pub starts : Sport → Entry → Bool
starts sport e = if is_lap (Added e) then false else is_none (start_refusal (start_by sport e))

abbrev pub started_by : Sport → Entry → Heard → Heard
started_by sport e h =
    if starts sport e
    then followed_by e (record h { list = Started (start_by sport e) ∷ [] })
    else with_one_left_out h

abbrev pub entry_heard_after : List Recorded → Sport → Entry → Heard → Heard
entry_heard_after [] sport e h = started_by sport e h
entry_heard_after (r ∷ list) sport e h = followed_by e h

abbrev pub entry_heard : Sport → Entry → Heard → Heard
entry_heard sport e h = entry_heard_after h.list sport e h

-- with one more message
abbrev pub heard_if : Sport → Option Entry → Heard → Heard
heard_if sport None h = h
heard_if sport (Some e) h = entry_heard sport e h

abbrev pub message_heard : Sport → Heard → Message → Heard
message_heard sport h m = heard_if sport (entry_in m) h

abbrev pub heard_as : Sport → List Message → Heard
heard_as sport messages = fold (message_heard sport) nothing_heard messages

-- The session that is added states the sport of the file, which the list does not need.
abbrev pub heard : List Message → Heard
heard messages = heard_as Generic messages
