-- What a session that is added has after the fields of a recorded one: avg_cadence, max_cadence and total_ascent, by the samples of the list.
use Rattle.std.specs.Prelude.{ℕ, ◌+◌, ◌-◌, ◌/◌, Bool, List, [], ◌∷◌, max, min, Option, Some, None, option_map, nat_lt, nat_le, ◌||◌, if◌then◌else◌}
use Rattle.std.specs.List.{filter, filter_map, fold}
use Rattle.std.specs.Option.{option_or}
use Rattle.fit_base.specs.declared.base.BaseType.TheVariants.{Uint8, Uint16}
use Rattle.fit_activity.specs.declared.recording.entry.Entry.TheVariants.{Sample}
use Rattle.fit_activity.specs.Rides.Recording.{Recorded, Added}
use Rattle.fit_activity.specs.Rides.Stretch.{average, greatest}
use Rattle.fit_activity.specs.Messages.Numbers.{session_global}
use Rattle.fit_activity.specs.Messages.ProfileField.{ProfileMessage, profile_field_or_invalid}
use Rattle.fit_finishing.specs.declared.climb.Climb.{Climb}
use Rattle.fit_finishing.specs.declared.effort.EffortSummary.{EffortSummary}

-- a sample's cadence, if it has one, and its altitude, by the longer field of newer devices if it has that; an altitude is in fifths of a metre
abbrev pub cadence_of : Recorded → Option ℕ
cadence_of (Added (Sample s)) = s.cadence
cadence_of _ = None

abbrev pub altitude_of : Recorded → Option ℕ
altitude_of (Added (Sample s)) = option_or s.enhanced_altitude s.altitude
altitude_of _ = None

abbrev pub cadences : List Recorded → List ℕ
cadences list = filter_map cadence_of list

-- those above 0: devices leave out the seconds in which nobody pedals
abbrev pub turning : List ℕ → List ℕ
turning cadences = filter (nat_lt 0) cadences

-- a rise counts from two metres on, so that the noise of a barometer does not
abbrev pub counted_rise : ℕ → ℕ
counted_rise rise = if nat_lt rise 10 then 0 else rise

-- what a climb adds up to: the rises that ended, and the one from the lowest to the highest altitude since
abbrev pub ascended : Climb → ℕ
ascended climb = climb.risen + counted_rise (climb.high - climb.low)

-- a rise ends at an altitude below its lowest one, or two metres below its highest one
abbrev pub ends_rise : Climb → ℕ → Bool
ends_rise climb altitude = nat_lt altitude climb.low || nat_le 10 (climb.high - altitude)

abbrev pub climb_from : ℕ → ℕ → Climb
climb_from risen altitude = record { risen = risen; low = altitude; high = altitude }

abbrev pub climbed : Climb → ℕ → Climb
climbed climb altitude =
    if ends_rise climb altitude then climb_from (ascended climb) altitude
    else record climb { high = max climb.high altitude }

-- the climb of altitudes, one after another
abbrev pub climbed_after : Option Climb → ℕ → Option Climb
climbed_after None altitude = Some (climb_from 0 altitude)
climbed_after (Some climb) altitude = Some (climbed climb altitude)

abbrev pub climb_of : List Recorded → Option Climb
climb_of list = fold climbed_after None (filter_map altitude_of list)

-- in metres, rounded down, and at most 65534
abbrev pub stated_ascent : Climb → ℕ
stated_ascent climb = min (ascended climb / 5) 65534

abbrev pub effort_of : List Recorded → EffortSummary
effort_of list =
    record {
      average_cadence = average (turning (cadences list));
      greatest_cadence = greatest (cadences list);
      ascent = option_map stated_ascent (climb_of list);
    }

-- the fields avg_cadence, max_cadence and total_ascent of a session, each invalid if there is none
abbrev pub effort_message : EffortSummary → ProfileMessage
effort_message effort =
    record {
      local = 8;
      global = session_global;
      fields = profile_field_or_invalid 18 Uint8 effort.average_cadence
          ∷ profile_field_or_invalid 19 Uint8 effort.greatest_cadence
          ∷ profile_field_or_invalid 22 Uint16 effort.ascent
          ∷ [];
    }
