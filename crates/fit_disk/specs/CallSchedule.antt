-- The counts and the schedule that a memory disk stores.
use Rattle.std.specs.Prelude.{ℕ, Option}
use Rattle.fit_disk.specs.declared.call_counts.CallCounts.{CallCounts}
use Rattle.fit_disk.specs.Counts.{Counts, Schedule}

abbrev pub counts_of : CallCounts → Counts
counts_of tally =
    record {
      calls = tally.calls;
      data_reads = tally.data_reads;
      failed = tally.failed;
      last_failed = tally.last_failed;
    }

abbrev pub schedule_by : Option ℕ → Option ℕ → CallCounts → Schedule
schedule_by fail cut since = record { fail = fail; cut = cut; since = counts_of since }
