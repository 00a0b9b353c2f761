-- The definitions for known rides. The expected values come from outside.
use Rattle.std.proofs.Common.{◌≡◌, ℕ, pos, List, [], ◌∷◌, ◌++◌, Option, Some, None, refl}
use Rattle.fit_activity.specs.declared.recording.start.Sport.TheVariants.{Running}
use Rattle.fit_activity.specs.declared.recording.entry.Sample.{Sample as AnySample}
use Rattle.fit_activity.specs.declared.recording.entry.Entry.{Entry}
use Rattle.fit_activity.specs.declared.recording.entry.Entry.TheVariants.{Sample, Lap, Pause, Resume, Stop}
use Rattle.fit_activity.specs.declared.recording.refusal.Refusal.TheVariants.{Time, Distance, Value, TimerStopped, TimerRunning, TooLong}
use Rattle.fit_activity.specs.Rides.Table.{of_raw}
use Rattle.fit_activity.specs.Rides.Recording.{Recorded, Started, Added}
use Rattle.fit_activity.specs.Rides.Stretch.{lap_at, lap_of, session_of}
use Rattle.fit_activity.specs.Rides.Refusal.{refusal_of}
use Rattle.fit_activity.specs.Messages.ProfileMessage.{record_message}
use Rattle.fit_activity.proofs.Spelling.Messages.{profile_message_size}

abbrev start : Recorded
start = Started (record { time = 1000000000; serial = 7; sport = Running })

abbrev empty_at : ℕ → AnySample
empty_at time = of_raw time []

abbrev sample_with : ℕ → Option ℕ → Option ℕ → Entry
sample_with time rate distance = Sample (record (empty_at time) { heart_rate = rate; distance = distance })

abbrev rate_at : ℕ → ℕ → Recorded
rate_at time rate = Added (sample_with time (Some rate) None)

abbrev distance_at : ℕ → ℕ → Recorded
distance_at time distance = Added (sample_with time None (Some distance))

-- two laps: heart rates 100 and 101 in the first; 110 at the second in which the second lap begins
abbrev first_lap : List Recorded
first_lap = start ∷ rate_at 1000000000 100 ∷ rate_at 1000000001 101 ∷ []

abbrev two_laps : List Recorded
two_laps = first_lap ++ Added (Lap 1000000002) ∷ rate_at 1000000002 110 ∷ []

first-index : (lap_at first_lap 1000000002).index ≡ 0
first-index = refl

first-elapsed : (lap_at first_lap 1000000002).stretch.elapsed ≡ 2000
first-elapsed = refl

first-timer : (lap_at first_lap 1000000002).stretch.timer ≡ 2000
first-timer = refl

first-average : (lap_at first_lap 1000000002).stretch.average_heart_rate ≡ Some 100
first-average = refl

first-greatest : (lap_at first_lap 1000000002).stretch.greatest_heart_rate ≡ Some 101
first-greatest = refl

second-index : (lap_of two_laps).index ≡ 1
second-index = refl

second-start : (lap_of two_laps).stretch.start ≡ 1000000002
second-start = refl

second-timer : (lap_of two_laps).stretch.timer ≡ 0
second-timer = refl

second-average : (lap_of two_laps).stretch.average_heart_rate ≡ Some 110
second-average = refl

session-laps : (session_of two_laps).laps ≡ 2
session-laps = refl

session-average : (session_of two_laps).stretch.average_heart_rate ≡ Some 103
session-average = refl

session-greatest : (session_of two_laps).stretch.greatest_heart_rate ≡ Some 110
session-greatest = refl

session-timer : (session_of two_laps).stretch.timer ≡ 2000
session-timer = refl

-- a pause that ends in its own second has no length
abbrev turned : List Recorded
turned = start ∷ Added (Pause 1000000005) ∷ Added (Resume 1000000005) ∷ []

turned-first : (lap_at turned 1000000005).stretch.timer ≡ 5000
turned-first = refl

turned-second : (lap_of (turned ++ Added (Lap 1000000005) ∷ Added (Stop 1000000008) ∷ [])).stretch.timer ≡ 3000
turned-second = refl

-- a pause of two seconds, with a lap at the first of them
abbrev paused : List Recorded
paused = start ∷ Added (Pause 1000000005) ∷ []

paused-first : (lap_at paused 1000000005).stretch.timer ≡ 5000
paused-first = refl

abbrev resumed : List Recorded
resumed = paused ++ Added (Lap 1000000005) ∷ Added (Resume 1000000007) ∷ Added (Stop 1000000008) ∷ []

resumed-elapsed : (lap_of resumed).stretch.elapsed ≡ 3000
resumed-elapsed = refl

resumed-timer : (lap_of resumed).stretch.timer ≡ 1000
resumed-timer = refl

-- distances and average speeds
abbrev far : List Recorded
far = start ∷ distance_at 1000000000 0 ∷ distance_at 1000000010 12345 ∷ Added (Stop 1000000010) ∷ []

far-distance : (session_of far).stretch.distance ≡ Some 12345
far-distance = refl

far-speed : (session_of far).stretch.average_speed ≡ Some 12345
far-speed = refl

near-speed : (session_of (start ∷ distance_at 1000000007 100 ∷ Added (Stop 1000000007) ∷ [])).stretch.average_speed ≡ Some 142
near-speed = refl

abbrev fast : List Recorded
fast = start ∷ distance_at 1000000001 100000 ∷ Added (Stop 1000000001) ∷ []

fast-distance : (session_of fast).stretch.distance ≡ Some 100000
fast-distance = refl

fast-speed : (session_of fast).stretch.average_speed ≡ None
fast-speed = refl

-- greatest speeds: a sample's is the greater of its two; a stretch has none above 65534
abbrev speeds : ℕ → Option ℕ → Option ℕ → Entry
speeds time speed enhanced = Sample (record (empty_at time) { speed = speed; enhanced_speed = enhanced })

abbrev speeds_at : ℕ → Option ℕ → Option ℕ → Recorded
speeds_at time speed enhanced = Added (speeds time speed enhanced)

abbrev quick : Recorded → List Recorded
quick second = start ∷ speeds_at 1000000000 (Some 5000) (Some 6000) ∷ second ∷ Added (Stop 1000000001) ∷ []

quick-session : (session_of (quick (speeds_at 1000000001 (Some 5500) None))).stretch.greatest_speed ≡ Some 6000
quick-session = refl

quick-lap : (lap_of (quick (speeds_at 1000000001 (Some 5500) None))).stretch.greatest_speed ≡ Some 6000
quick-lap = refl

too_quick : (session_of (quick (speeds_at 1000000001 (Some 5500) (Some 70000)))).stretch.greatest_speed ≡ None
too_quick = refl

most-quick : (session_of (start ∷ speeds_at 1000000001 None (Some 65534) ∷ [])).stretch.greatest_speed ≡ Some 65534
most-quick = refl

invalid-quick : (session_of (start ∷ speeds_at 1000000001 None (Some 65535) ∷ [])).stretch.greatest_speed ≡ None
invalid-quick = refl

-- the longest sample has every field; its size, with its definition
abbrev full : AnySample
full = record (empty_at 1000000000) {
  lat = Some (pos 1);
  long = Some (pos 2);
  altitude = Some 3;
  heart_rate = Some 4;
  cadence = Some 5;
  distance = Some 6;
  speed = Some 7;
  power = Some 8;
  temperature = Some (pos 9);
  enhanced_speed = Some 10;
  enhanced_altitude = Some 11;
}

full-size : profile_message_size (record_message full) ≡ 76
full-size = refl

-- refusals
abbrev known : List Recorded
known = start ∷ distance_at 1000000010 500 ∷ []

refused-time : refusal_of known (sample_with 1000000009 None None) ≡ Some Time
refused-time = refl

refused-distance : refusal_of known (sample_with 1000000010 None (Some 499)) ≡ Some Distance
refused-distance = refl

refused-value : refusal_of known (sample_with 1000000010 (Some 255) None) ≡ Some (Value 3)
refused-value = refl

refused-enhanced : refusal_of known (Sample (record (empty_at 1000000010) { heart_rate = Some 255; enhanced_speed = Some 4294967295 })) ≡ Some (Value 3)
refused-enhanced = refl

refused-speed : refusal_of known (speeds 1000000010 None (Some 4294967295)) ≡ Some (Value 73)
refused-speed = refl

refused-altitude : refusal_of known (Sample (record (empty_at 1000000010) { enhanced_altitude = Some 4294967295 })) ≡ Some (Value 78)
refused-altitude = refl

refused-stopped : refusal_of (known ++ Added (Pause 1000000010) ∷ []) (sample_with 1000000010 (Some 90) None) ≡ Some TimerStopped
refused-stopped = refl

refused-running : refusal_of known (Resume 1000000012) ≡ Some TimerRunning
refused-running = refl

refused-long : refusal_of known (Lap 1004000001) ≡ Some TooLong
refused-long = refl

allowed-long : refusal_of known (Lap 1004000000) ≡ None
allowed-long = refl
