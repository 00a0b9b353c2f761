-- What a command does to the counts and the schedule of calls of a disk whose failures are arranged.
use Rattle.std.specs.Prelude.{◌≡◌, ℕ, ◌≤◌, false, Option, None, Some}
use Rattle.fit_disk.specs.Counts.{Counts, Schedule, failing_at, cut_off_at, unplanned}
use Rattle.fit_histories.specs.declared.command.Command.{Command}
use Rattle.fit_histories.specs.declared.command.Command.TheVariants as commands
use Rattle.fit_histories.specs.declared.reply.Reply.{Reply}
use Rattle.fit_histories.specs.declared.reply.Reply.TheVariants as replies
use Rattle.fit_histories.specs.Histories.Arranged.{Arranged}
use Rattle.fit_histories.specs.Rides.Standing.{IsCounted}

-- the planned call was made
abbrev pub IsPast : Option ℕ → ℕ → Type 0
IsPast None calls = Unit {0}
IsPast (Some number) calls = number ≤ calls

-- if nothing was arranged, no future call is planned to fail
pub record IsArranged (arranged : Arranged) (counts : Counts) (schedule : Schedule) : Type 0 where
  pub no_cut : arranged.cut ≡ false → schedule.cut ≡ None
  pub no_fail : arranged.cut ≡ false → arranged.fail ≡ false → IsPast schedule.fail counts.calls

-- from these counts and this schedule, a command with this reply leads to the new ones
abbrev pub Moves : Command → Reply → Counts → Schedule → Counts → Schedule → Type 0
Moves (commands.Fail k) reply counts schedule new_counts new_schedule =
    (reply ≡ replies.Done) × (new_counts ≡ counts) × (new_schedule ≡ failing_at k counts schedule)
Moves (commands.Cut k) reply counts schedule new_counts new_schedule =
    (reply ≡ replies.Done) × (new_counts ≡ counts) × (new_schedule ≡ cut_off_at k counts schedule)
Moves commands.Power reply counts schedule new_counts new_schedule =
    (reply ≡ replies.Done) × (new_counts ≡ counts) × (new_schedule ≡ unplanned counts)
Moves command reply counts schedule new_counts new_schedule =
    IsCounted command reply counts new_counts × (new_schedule ≡ schedule)
