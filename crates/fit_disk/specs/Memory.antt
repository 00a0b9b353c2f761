-- What a memory disk shows.
use Rattle.std.specs.Prelude.{[], ◌≡◌, true, Result, IsErr, is_err, OnErr, Bool, ◌||◌, ◌==◌}
use Rattle.fit_disk.specs.declared.call_schedule.CallSchedule.{CallSchedule}
use Rattle.fit_disk.specs.declared.memory.Memory.{Memory}
use Rattle.fit_disk.specs.State.{seen_in}
use Rattle.fit_disk.specs.Story.{Story}
use Rattle.fit_disk.specs.Counts.{Counts, Log, Schedule, must_fail, last_count, no_room}
use Rattle.fit_disk.specs.CallSchedule.{counts_of, schedule_by}
use Rattle.fit_disk.specs.Store.{store_story}

abbrev pub schedule_counts : CallSchedule → Counts
schedule_counts call_schedule = counts_of call_schedule.counts

abbrev pub schedule_value : CallSchedule → Schedule
schedule_value call_schedule = schedule_by call_schedule.fail call_schedule.cut call_schedule.since

abbrev pub memory_story : Memory → Story
memory_story m = store_story m.store

abbrev pub memory_counts : Memory → Counts
memory_counts m = schedule_counts m.call_schedule

abbrev pub memory_schedule : Memory → Schedule
memory_schedule m = schedule_value m.call_schedule

abbrev pub memory_log : Memory → Log
memory_log m =
    record {
      counts = memory_counts m;
      schedule = memory_schedule m;
      memory = [];
      room = no_room;
    }

-- memory was refused in one of its calls
abbrev pub growth_was_refused : Memory → Bool
growth_was_refused m = m.call_schedule.growth_was_refused

-- memory was refused in its last call
abbrev pub last_growth_was_refused : Memory → Bool
last_growth_was_refused m = m.call_schedule.last_growth_was_refused

-- memory was refused in one of its calls, or its counts are at their last value
abbrev pub is_spent : Memory → Bool
is_spent m = growth_was_refused m || (m.call_schedule.counts.calls == last_count)

-- A call fails if and only if it is scheduled to, the counts are at their last value, or memory was refused in it. A refusal is remembered.
pub record FailsByCause {T E : Type 0} (result : Result T E) (old new : Memory) : Type 0 where
  pub fails : is_err result
      ≡ (must_fail (memory_counts old) (memory_schedule old) || last_growth_was_refused new)
  pub refused : growth_was_refused new ≡ (growth_was_refused old || last_growth_was_refused new)

-- A call that may take memory. If it failed, reads give what they gave before. If memory was refused in it, it failed and nothing changed.
pub record FailsCleanly {T E : Type 0} (result : Result T E) (old new : Memory) : Type 0 where
  pub same_reads : OnErr result (seen_in (memory_story new).now ≡ seen_in (memory_story old).now)
  pub unchanged : last_growth_was_refused new ≡ true
      → IsErr result × (memory_story new ≡ memory_story old)
