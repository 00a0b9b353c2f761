-- A law of the table: a ride goes well if no failure is arranged and there is room.
use Rattle.std.specs.Prelude.{◌≡◌, Bool, true, false, List, [], ◌∷◌, ◌++◌, map, None}
use Rattle.std.specs.List.{AllByRecursion}
use Rattle.fit_activity.specs.declared.recording.entry.Entry.TheVariants.{Stop}
use Rattle.fit_activity.specs.declared.recording.start.Start.{Start}
use Rattle.fit_activity.specs.Rides.Recording.{Recorded, Started, Added}
use Rattle.fit_activity.specs.Rides.Refusal.{refusal_of, start_refusal}
use Rattle.fit_recorder.specs.declared.fault.RecFault.TheVariants.{Full}
use Rattle.fit_histories.specs.declared.command.Command.{Command}
use Rattle.fit_histories.specs.declared.command.Command.TheVariants as commands
use Rattle.fit_histories.specs.declared.event.Event.{Event}
use Rattle.fit_histories.specs.Histories.Runs.{IsHistory}
use Rattle.fit_histories.specs.Histories.Table.{Outcome, Done, Stopped, Fault, HasFewRecords, IsFileOf}

-- after the list, these commands hand in entries that are not refused, commit, and stop at the end
abbrev pub IsRide : List Recorded → List Command → Type 0
IsRide list [] = ⊥
IsRide list (commands.Commit ∷ rest) = IsRide list rest
IsRide list (commands.Entry (Stop time) ∷ rest) = (refusal_of list (Stop time) ≡ None) × (rest ≡ [])
IsRide list (commands.Entry entry ∷ rest) =
    (refusal_of list entry ≡ None) × IsRide (list ++ Added entry ∷ []) rest
IsRide list (command ∷ rest) = ⊥

-- each of them was done, and the stop reports a valid file of the whole list and the messages that close it, of no more bytes than fit
abbrev pub RodeWell : List Recorded → List Command → List Outcome → Type 0
RodeWell list (commands.Commit ∷ rest) (Done ∷ outcomes) = RodeWell list rest outcomes
RodeWell list (commands.Entry (Stop time) ∷ rest) (Stopped file ∷ outcomes) =
    IsFileOf file (list ++ Added (Stop time) ∷ []) × HasFewRecords file × (outcomes ≡ [])
RodeWell list (commands.Entry entry ∷ rest) (Done ∷ outcomes) =
    RodeWell (list ++ Added entry ∷ []) rest outcomes
RodeWell list _ _ = ⊥

-- no room was left
abbrev pub is_full : Outcome → Bool
is_full (Fault Full) = true
is_full _ = false

abbrev pub HadRoom : List Outcome → Type 0
HadRoom outcomes = AllByRecursion (λ outcome. is_full outcome ≡ false) outcomes

abbrev pub event_command : Event → Command
event_command event = event.command

-- over two empty files, a ride goes well if no failure is arranged and there is room
abbrev pub RidesGoWell : Type 0
RidesGoWell =
    (start : Start) (first : Event) (events : List Event) (all : List Outcome)
    → first.command ≡ commands.Start start → start_refusal start ≡ None
    → IsRide (Started start ∷ []) (map event_command events) → IsHistory (first ∷ events) all
    → HadRoom all
    → (outcomes : List Outcome) × (all ≡ Done ∷ outcomes)
    × RodeWell (Started start ∷ []) (map event_command events) outcomes
