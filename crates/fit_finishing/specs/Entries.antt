-- The entry that a message gives, whoever wrote it: fields in any order, with others between them (FIT profile: record, lap, event).
use Rattle.std.specs.Prelude.{ℕ, Option, Some, None, map, unwrap_or, option_and_then, ◌==◌, ◌||◌, if◌then◌else◌}
use Rattle.fit_base.specs.declared.base.BaseType.TheVariants.{Enum, Uint32}
use Rattle.fit_grammar.specs.Format.Message.{Message}
use Rattle.fit_activity.specs.declared.recording.entry.Entry.{Entry}
use Rattle.fit_activity.specs.declared.recording.entry.Entry.TheVariants.{Sample, Lap, Pause, Resume}
use Rattle.fit_activity.specs.declared.recording.entry.Sample.{Sample as AnySample}
use Rattle.fit_activity.specs.Rides.Fields.{sample_rows}
use Rattle.fit_activity.specs.Rides.Table.{of_raw}
use Rattle.fit_grammar.specs.Format.OneValue.{value_of}

-- its timestamp; without one the invalid time, which no rule takes
abbrev pub time_in : Message → ℕ
time_in m = unwrap_or (value_of Uint32 253 m) 0xFFFFFFFF

-- the sample of a record: of each field of the table its one valid value under the table's base type
abbrev pub sample_in : Message → AnySample
sample_in m = of_raw (time_in m) (map (λ row. value_of row.1 row.0 m) sample_rows)

-- A start resumes. Each kind of stop (stop, stop_all, stop_disable, stop_disable_all) pauses, because a ride may go on after it.
abbrev pub timer_entry : ℕ → ℕ → Option Entry
timer_entry time type =
    if type == 0 then Some (Resume time)
    else if (type == 1) || ((type == 4) || ((type == 8) || (type == 9))) then Some (Pause time)
    else None

-- the event is that of the timer
abbrev pub timer_entry_if : Option ℕ → Option Entry → Option Entry
timer_entry_if None e = None
timer_entry_if (Some event) e = if event == 0 then e else None

abbrev pub event_entry : Message → Option Entry
event_entry m =
    timer_entry_if (value_of Enum 0 m) (option_and_then (timer_entry (time_in m)) (value_of Enum 1 m))

abbrev pub entry_in : Message → Option Entry
entry_in m =
    if m.global == 20 then Some (Sample (sample_in m))
    else if m.global == 19 then Some (Lap (time_in m))
    else if m.global == 21 then event_entry m
    else None
