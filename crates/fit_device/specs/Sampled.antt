-- The sample that the numbers of C stand for: a value is absent if its bit is not set, or it is the invalid one of its field.
use Rattle.std.specs.Prelude.{ℕ, Bool, ℤ, pos, ◌/◌, ◌%◌, ◌==◌, if◌then◌else◌, Option, Some, None}
use Rattle.std.specs.Ordering.{int_eq}
use Rattle.fit_activity.specs.declared.recording.entry.Sample.{Sample}
use Rattle.fit_device.specs.declared.sample.DeviceSample.{DeviceSample}

abbrev pub unless : ℕ → ℕ → Option ℕ
unless invalid value = if value == invalid then None else Some value

abbrev pub unless_signed : ℕ → ℤ → Option ℤ
unless_signed invalid value = if int_eq value (pos invalid) then None else Some value

-- the value, if its bit is set
abbrev pub given : {T : Type 0} → ℕ → ℕ → Option T → Option T
given has bit value = if has / bit % 2 == 1 then value else None

-- whether its time is written in full
abbrev pub has_plain_time : DeviceSample → Bool
has_plain_time s = s.has / 2048 % 2 == 1

abbrev pub sample_given : DeviceSample → Sample
sample_given s = record {
  time = s.time;
  lat = given s.has 1 (unless_signed 0x7FFFFFFF s.lat);
  long = given s.has 2 (unless_signed 0x7FFFFFFF s.long);
  altitude = given s.has 32 (unless 0xFFFF s.altitude);
  heart_rate = given s.has 256 (unless 0xFF s.heart_rate);
  cadence = given s.has 512 (unless 0xFF s.cadence);
  distance = given s.has 4 (unless 0xFFFFFFFF s.distance);
  speed = given s.has 64 (unless 0xFFFF s.speed);
  power = given s.has 128 (unless 0xFFFF s.power);
  temperature = given s.has 1024 (unless_signed 0x7F s.temperature);
  enhanced_speed = given s.has 8 (unless 0xFFFFFFFF s.enhanced_speed);
  enhanced_altitude = given s.has 16 (unless 0xFFFFFFFF s.enhanced_altitude);
}
