-- The messages of several parts as one activity.
use Rattle.std.specs.Prelude.{ℕ, Bool, true, false, List, [], ◌∷◌, ◌++◌, Option, Some, None, ◌==◌, ◌&&◌, ◌||◌, if◌then◌else◌}
use Rattle.std.specs.List.{list_any}
use Rattle.std.specs.Option.{is_some, option_or}
use Rattle.fit_base.specs.declared.base.BaseType.TheVariants.{Enum}
use Rattle.fit_grammar.specs.Format.Message.{Message}
use Rattle.fit_grammar.specs.Calls.LentField.{field_with}
use Rattle.fit_finishing.specs.declared.sport.SportStated.{SportStated}
use Rattle.fit_finishing.specs.Sports.{first_sport, sport_value}
use Rattle.fit_joining.specs.declared.tally.Tally.{Tally}
use Rattle.fit_joining.specs.Makers.{Maker, declared_past, no_makers}
use Rattle.fit_joining.specs.Part.{part, tally_before, tally_past}
use Rattle.fit_joining.specs.Timer.{event_at, span_of, start_due, stop_due}

-- ---- whether laps stay

-- a part goes on after a lap if a record or another lap follows
abbrev pub goes_on : Message → Bool
goes_on m = (m.global == 19) || (m.global == 20)

-- the rider made a lap: one after which the part goes on
abbrev pub has_made_lap : List Message → Bool
has_made_lap [] = false
has_made_lap (m ∷ messages) = ((m.global == 19) && list_any goes_on messages) || has_made_lap messages

-- Laps stay if the rider made one in any part. Else each part has one lap at most, which sums it up.
abbrev pub laps_stay : List (List Message) → Bool
laps_stay parts = list_any has_made_lap parts

-- ---- the messages

abbrev pub first_tally : Bool → Tally
first_tally keeps_laps =
    record { follows = false; keeps_laps = keeps_laps; begun_at = 0; reached = 0; laps = 0 }

-- distances go on from the last one before
abbrev pub next_tally : Tally → Tally
next_tally t = record t { follows = true; begun_at = t.reached }

-- whether another part follows
abbrev pub is_followed : List (List Message) → Bool
is_followed [] = false
is_followed (next ∷ parts) = true

-- A part: its messages, with the timer started before them and stopped after them where it stood between two parts.
abbrev pub joined_one : List (Option ℕ) → Tally → Bool → List Message → List Message
joined_one given t followed own =
    event_at (start_due t.follows (span_of t.keeps_laps own)) 0
    ++ (part given t own ++ event_at (stop_due followed (span_of t.keeps_laps own)) 4)

-- The messages of each part in turn. Its developer data has the indices that are given to it after the parts before it, whose makers are
-- `makers`.
abbrev pub joined_after : List (Option Maker) → Tally → List (List Message) → List Message
joined_after makers t [] = []
joined_after makers t (own ∷ parts) =
    joined_one (declared_past makers own).given (tally_before t own) (is_followed parts) own
    ++ joined_after (declared_past makers own).makers (next_tally (tally_past (tally_before t own) own)) parts

-- ---- the sport

-- a sport message of the part states it
abbrev pub tells_sport : List Message → Bool
tells_sport [] = false
tells_sport (m ∷ messages) = ((m.global == 12) && is_some (sport_value m)) || tells_sport messages

-- Sessions are left out, and laps may be. So where no sport message states the sport, the first one that a part states is added.
abbrev pub sport_after : Option SportStated → List (List Message) → Option SportStated
sport_after sport [] = sport
sport_after sport (own ∷ parts) =
    if tells_sport own then None else sport_after (option_or sport (first_sport own)) parts

abbrev pub sport_due : List (List Message) → Option SportStated
sport_due parts = sport_after None parts

-- sport: sport, sub_sport
abbrev pub sport_message : SportStated → Message
sport_message s =
    record {
      global = 12;
      fields = field_with 0 Enum s.sport ∷ field_with 1 Enum s.sub_sport ∷ [];
      developer = [];
    }

abbrev pub sport_added : Option SportStated → List Message
sport_added None = []
sport_added (Some s) = sport_message s ∷ []

-- ---- all of them

abbrev pub joined_messages : List (List Message) → List Message
joined_messages parts =
    joined_after no_makers (first_tally (laps_stay parts)) parts ++ sport_added (sport_due parts)
