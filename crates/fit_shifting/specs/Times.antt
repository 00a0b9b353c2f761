-- Which fields hold times: seconds from one moment on, in UTC or of the place.
use Rattle.std.specs.Prelude.{ℕ, Bool, false, ◌==◌, ◌&&◌, ◌||◌, if◌then◌else◌}

-- the fields of the Profile that hold times in UTC, beside field 253, by the message and the field: time_created of file_id, schedule and
-- training_file; clock_time of device_settings; start_date and end_date of goal; start_time of session, lap, length, segment_lap, set and
-- split; timestamp of course_point; observed_at_time of weather_conditions; issue_time and expire_time of weather_alert; utc_timestamp of
-- gps_metadata; system_timestamp of timestamp_correlation; start_timestamp of obdii_data; start_timestamp and end_timestamp of video_clip;
-- and stress_level_time of stress_level
abbrev pub is_utc_time : ℕ → ℕ → Bool
is_utc_time message number =
    if message == 0 then number == 4 else
    if message == 2 then number == 39 else
    if message == 15 then (number == 2) || (number == 3) else
    if message == 18 then number == 2 else
    if message == 19 then number == 2 else
    if message == 28 then number == 3 else
    if message == 32 then number == 1 else
    if message == 72 then number == 4 else
    if message == 101 then number == 2 else
    if message == 128 then number == 9 else
    if message == 129 then (number == 1) || (number == 2) else
    if message == 142 then number == 2 else
    if message == 160 then number == 6 else
    if message == 162 then number == 1 else
    if message == 174 then number == 6 else
    if message == 187 then (number == 1) || (number == 3) else
    if message == 225 then number == 6 else
    if message == 227 then number == 1 else
    if message == 312 then number == 9 else
    false

-- the fields of the Profile that hold times of the place, by the message and the field: scheduled_time of schedule, and local_timestamp
-- of activity, monitoring, monitoring_info and timestamp_correlation
abbrev pub is_local_time : ℕ → ℕ → Bool
is_local_time message number =
    if message == 28 then number == 6 else
    if message == 34 then number == 5 else
    if message == 55 then number == 11 else
    if message == 103 then number == 0 else
    if message == 162 then number == 3 else
    false

-- a field of the base type uint32 that is the time of its message, or a time by the Profile
abbrev pub holds_time : ℕ → ℕ → ℕ → Bool
holds_time message number base =
    (base == 0x86)
    && ((number == 253) || is_utc_time message number || is_local_time message number)
