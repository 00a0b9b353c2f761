-- The calls of a disk by number: how many were made, and which of them are scheduled to fail.
use Rattle.std.specs.Prelude.{◌≡◌, ℕ, zero, suc, ◌+◌, ◌-◌, ◌^◌, ◌<◌, ◌≤◌, min, Bool, true, false, ◌||◌, ◌==◌, nat_lt, nat_le, if◌then◌else◌, List, Option, None, Some, Result, OnOk, OnErr}
use Rattle.fit_disk.specs.declared.disk.Which.{Which}
use Rattle.fit_disk.specs.declared.disk.Which.TheVariants.{Data, Journal}

-- the number of calls, of reads of the data file among them and of failed calls, and whether the last call failed
pub record Counts : Type 0 where
  pub calls : ℕ
  pub data_reads : ℕ
  pub failed : ℕ
  pub last_failed : Bool

-- the last value of a count: once it is reached every call fails, and the numbers stay
abbrev pub last_count : ℕ
last_count = 2 ^ 64 - 1

-- one more call was made, and it is counted as failed if its result is an error
pub record CountsCall {T E : Type 0} (result : Result T E) (old new : Counts) : Type 0 where
  pub made : new.calls ≡ min (old.calls + 1) last_count
  pub no_fewer : old.calls ≤ new.calls
  pub ok : OnOk result ((old.calls < last_count) × (new.failed ≡ old.failed)
      × (new.last_failed ≡ false))
  pub err : OnErr result ((new.failed + old.calls ≡ old.failed + new.calls)
      × (new.last_failed ≡ true))

-- only a read of the data file is counted as one
abbrev pub CountsRead : Which → Counts → Counts → Type 0
CountsRead Data old new = new.data_reads + old.calls ≡ old.data_reads + new.calls
CountsRead Journal old new = new.data_reads ≡ old.data_reads

-- the counts with one more call, which has not failed so far
abbrev pub with_call : Counts → Counts
with_call counts = record counts { calls = counts.calls + 1; last_failed = false }

-- the counts with one more read of this file
abbrev pub with_read : Which → Counts → Counts
with_read Data counts = record (with_call counts) { data_reads = counts.data_reads + 1 }
with_read Journal counts = with_call counts

-- the counts once the last call has failed
abbrev pub with_failure : Counts → Counts
with_failure counts = record counts { failed = counts.failed + 1; last_failed = true }

-- the counts after a call made at their last value, which failed
abbrev pub with_uncounted : Counts → Counts
with_uncounted counts = record counts { last_failed = true }

-- One call failed, and no call was made after it. If the counts have reached their last value, they do not show it.
pub record HasFailed (old new : Counts) : Type 0 where
  pub one : new.calls < last_count → new.failed ≡ old.failed + 1
  pub last : new.last_failed ≡ true

-- the number of the one call that is to fail, the number of the call from which on all fail, and the counts at which this was scheduled
pub record Schedule : Type 0 where
  pub fail : Option ℕ
  pub cut : Option ℕ
  pub since : Counts

-- how many writes, cuts and syncs, with how many bytes together, a disk has room for
pub record Room : Type 0 where
  pub calls : ℕ
  pub bytes : ℕ

-- what a disk shows that promises no call to go well
abbrev pub no_room : Room
no_room = record { calls = 0; bytes = 0 }

-- what a disk knows of its calls: those that were made and those that are to fail; which memory of a caller it uses, by numbers that
-- no call changes; and the room that it has for more calls
pub record Log : Type 0 where
  pub counts : Counts
  pub schedule : Schedule
  pub memory : List ℕ
  pub room : Room

-- the call of that number is the one that is to fail
abbrev pub is_at : Option ℕ → ℕ → Bool
is_at None number = false
is_at (Some planned) number = number == planned

-- the call of that number is one of those from which on all fail: the power is off
abbrev pub is_from : Option ℕ → ℕ → Bool
is_from None number = false
is_from (Some planned) number = nat_le planned number

abbrev pub is_planned : Schedule → ℕ → Bool
is_planned schedule number = is_at schedule.fail number || is_from schedule.cut number

-- the next call fails, whatever memory is free: it is scheduled to fail, or the counts are at their last value
abbrev pub must_fail : Counts → Schedule → Bool
must_fail counts schedule = is_planned schedule (counts.calls + 1) || (counts.calls == last_count)

-- how many of the first so many calls are scheduled to fail
abbrev pub failures : Schedule → ℕ → ℕ
failures schedule zero = 0
failures schedule (suc number) =
    failures schedule number + (if is_planned schedule (suc number) then 1 else 0)

-- since the schedule was made, as many calls have failed as it gives
abbrev pub FailedAsPlanned : Counts → Schedule → Type 0
FailedAsPlanned counts schedule =
    counts.failed + failures schedule schedule.since.calls
    ≡ schedule.since.failed + failures schedule counts.calls

-- the number of the k-th call from now; none if the counts reach their last value before it
abbrev pub call_number : ℕ → ℕ → Option ℕ
call_number calls k = if nat_lt (calls + k) (2 ^ 64) then Some (calls + k) else None

-- a schedule by which the k-th call from now fails
abbrev pub failing_at : ℕ → Counts → Schedule → Schedule
failing_at k counts old =
    record {
      fail = call_number counts.calls k;
      cut = old.cut;
      since = counts;
    }

-- a schedule by which the power goes off at the k-th call from now, unless it is off already
abbrev pub cut_off_at : ℕ → Counts → Schedule → Schedule
cut_off_at k counts old = record {
  fail = old.fail;
  cut = if is_from old.cut counts.calls then old.cut else call_number counts.calls k;
  since = counts;
}

-- nothing is scheduled to fail
abbrev pub unplanned : Counts → Schedule
unplanned counts = record { fail = None; cut = None; since = counts }

-- no call was made
abbrev pub no_calls : Counts
no_calls = record { calls = 0; data_reads = 0; failed = 0; last_failed = false }
