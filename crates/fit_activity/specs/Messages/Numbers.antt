-- Numbers of the FIT profile.
use Rattle.std.specs.Prelude.{ℕ}

-- the global numbers of messages
abbrev pub file_id_global : ℕ
file_id_global = 0

abbrev pub sport_global : ℕ
sport_global = 12

abbrev pub session_global : ℕ
session_global = 18

abbrev pub lap_global : ℕ
lap_global = 19

abbrev pub record_global : ℕ
record_global = 20

abbrev pub event_global : ℕ
event_global = 21

abbrev pub activity_global : ℕ
activity_global = 34

-- the fields that have the same number in each message
abbrev pub timestamp_field : ℕ
timestamp_field = 253

abbrev pub message_index_field : ℕ
message_index_field = 254

-- the type of a file that is an activity
abbrev pub activity_file_type : ℕ
activity_file_type = 4
