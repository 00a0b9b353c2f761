-- What a plan shows as a disk.
use Rattle.std.specs.Prelude.{ℕ, ◌-◌, length}
use Rattle.fit_disk.specs.CallSchedule.{counts_of}
use Rattle.fit_disk.specs.Counts.{Counts, Log, Room, no_calls, unplanned}
use Rattle.fit_disk.specs.Story.{Story}
use Rattle.fit_disk.specs.Numbers.{numbers_of}
use Rattle.fit_plan.specs.declared.calls.Calls.{Calls}
use Rattle.fit_plan.specs.declared.plan.Plan.{Plan}

abbrev pub plan_story : Plan → Story
plan_story p = p.notes.story

-- the story before the calls of the plan
abbrev pub plan_since : Plan → Story
plan_since p = p.notes.since

abbrev pub plan_counts : Plan → Counts
plan_counts p = counts_of p.counts

-- the most calls of a plan, and the most bytes of their writes together
abbrev pub most_planned_calls : ℕ
most_planned_calls = 12

abbrev pub most_planned_bytes : ℕ
most_planned_bytes = 896

-- the room of a plan without calls
abbrev pub whole_room : Room
whole_room = record { calls = most_planned_calls; bytes = most_planned_bytes }

-- the room for more calls
abbrev pub room_by : Calls → Room
room_by calls =
    record {
      calls = most_planned_calls - length calls.calls.items;
      bytes = most_planned_bytes - length calls.bytes.items;
    }

abbrev pub room_in : Plan → Room
room_in p = room_by p.calls

-- Nothing is scheduled to fail. What no call changes is the story that the plan began with: so a caller of a function over any disk knows
-- which calls have led from it to the story now.
abbrev pub plan_log : Plan → Log
plan_log p =
    record {
      counts = plan_counts p;
      schedule = unplanned no_calls;
      memory = numbers_of (plan_since p);
      room = room_in p;
    }
