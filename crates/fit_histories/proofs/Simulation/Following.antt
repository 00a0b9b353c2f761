-- What one event leaves of both files and reports of them, and the history of answers that follow choice bytes: for `world::run`.
use Rattle.std.proofs.Common.{◌≡◌, ℕ, Bool, true, false, List, [], ◌∷◌, drop, refl, sym, subst}
use Rattle.fit_activity.specs.declared.activity.Summary.{Summary}
use Rattle.fit_activity.specs.declared.recording.entry.Entry.TheVariants as entries
use Rattle.fit_disk.specs.declared.memory.Memory.{Memory}
use Rattle.fit_disk.specs.Memory.{memory_story}
use Rattle.fit_disk.proofs.Moments.{at_end}
use Rattle.fit_recorder.specs.Files.Body.{StandsFor}
use Rattle.fit_recorder.proofs.Commit.Standing.{stays_stand}
use Rattle.fit_histories.specs.declared.command.Command.{Command}
use Rattle.fit_histories.specs.declared.command.Command.TheVariants as commands
use Rattle.fit_histories.specs.declared.event.Event.{Event}
use Rattle.fit_histories.specs.declared.reply.Reply.{Reply}
use Rattle.fit_histories.specs.declared.reply.Reply.TheVariants as replies
use Rattle.fit_histories.specs.declared.ride.Ride.{Ride}
use Rattle.fit_histories.specs.declared.ride.Ride.TheVariants as rides
use Rattle.fit_histories.specs.Histories.Arranged.{Arranged, nothing_arranged, arranged_after}
use Rattle.fit_histories.specs.Histories.Runs.{Runs, IsHistory}
use Rattle.fit_histories.specs.Histories.Table.{History, Idle, Riding, Step, Outcome, Stopped, Recovered, at_first, ended}
use Rattle.fit_histories.specs.Rides.Ride.{disk_in}
use Rattle.fit_histories.specs.Rides.Standing.{StandsIn, LeavesAllowed, content_of, outcome, reply_in}
use Rattle.fit_histories.specs.Simulation.Choices.{takes}
use Rattle.fit_histories.specs.Simulation.Following.{Follows, FollowsChoices, ReportsOutcome, Simulated, at_start}
use Rattle.fit_histories.proofs.Histories.Riding.{ended_rests}

-- ---- no recorder runs after a file is reported

abbrev IsIdle : History → Type 0
IsIdle (Idle claims begun) = Unit {0}
IsIdle (Riding list promise reopened failed) = ⊥

stopped_idle : (before : History) (command : Command) (file : List ℕ) (after : History) → Step before command (Stopped file) after → IsIdle after
stopped_idle before (commands.Start start) file after step = absurd step
stopped_idle (Riding list promise reopened false) (commands.Entry (entries.Stop time)) file after step = subst IsIdle (sym step.3) tt
stopped_idle (Riding list promise reopened true) (commands.Entry (entries.Stop time)) file after step = absurd step
stopped_idle (Idle claims begun) (commands.Entry (entries.Stop time)) file after step = absurd step
stopped_idle (Riding list promise reopened false) (commands.Entry entry) file after step = absurd step
stopped_idle (Riding list promise reopened true) (commands.Entry entry) file after step = absurd step
stopped_idle (Idle claims begun) (commands.Entry entry) file after step = absurd step
stopped_idle (Riding list promise reopened false) commands.Commit file after step = absurd step
stopped_idle (Riding list promise reopened true) commands.Commit file after step = absurd step
stopped_idle (Idle claims begun) commands.Commit file after step = absurd step
stopped_idle before commands.Recover file after step = absurd step
stopped_idle before commands.Reopen file after step = absurd step
stopped_idle before commands.Erase file after step = absurd step
stopped_idle before command file after step = absurd cc

recovered_idle : (before : History) (command : Command) (summary : Summary) (file : List ℕ) (after : History) →
    Step before command (Recovered summary file) after → IsIdle after
recovered_idle before (commands.Start start) summary file after step = absurd step
recovered_idle (Riding list promise reopened false) (commands.Entry (entries.Stop time)) summary file after step = absurd step
recovered_idle (Riding list promise reopened true) (commands.Entry (entries.Stop time)) summary file after step = absurd step
recovered_idle (Idle claims begun) (commands.Entry (entries.Stop time)) summary file after step = absurd step
recovered_idle (Riding list promise reopened false) (commands.Entry entry) summary file after step = absurd step
recovered_idle (Riding list promise reopened true) (commands.Entry entry) summary file after step = absurd step
recovered_idle (Idle claims begun) (commands.Entry entry) summary file after step = absurd step
recovered_idle (Riding list promise reopened false) commands.Commit summary file after step = absurd step
recovered_idle (Riding list promise reopened true) commands.Commit summary file after step = absurd step
recovered_idle (Idle claims begun) commands.Commit summary file after step = absurd step
recovered_idle before commands.Recover summary file after step = subst IsIdle (sym step.after_is) tt
recovered_idle before commands.Reopen summary file after step = absurd step
recovered_idle before commands.Erase summary file after step = absurd step
recovered_idle before command summary file after step = absurd cc

-- if no recorder runs, what is reported of a ride is what reads give
reports_idle : (ride : Ride Memory) (after : History) (reply : Reply) → IsIdle after → StandsIn true memory_story ride after →
    ReportsOutcome (outcome reply (content_of memory_story ride)) (memory_story (disk_in ride))
reports_idle (rides.Idle disk) (Idle claims begun) replies.Stopped idle stands = refl
reports_idle (rides.Idle disk) (Idle claims begun) (replies.Recovered summary) idle stands = refl
reports_idle (rides.Idle disk) (Idle claims begun) reply idle stands = tt
reports_idle (rides.Idle disk) (Riding list promise reopened failed) reply idle stands = absurd idle
reports_idle (rides.Riding recorder) (Idle claims begun) reply idle stands = absurd stands
reports_idle (rides.Riding recorder) (Riding list promise reopened failed) reply idle stands = absurd idle

pub reports_seen : (before after : History) (command : Command) (reply : Reply) (ride : Ride Memory) →
    Step before command (outcome reply (content_of memory_story ride)) after → StandsIn true memory_story ride after →
    ReportsOutcome (outcome reply (content_of memory_story ride)) (memory_story (disk_in ride))
reports_seen before after command replies.Stopped ride step stands =
    reports_idle ride after replies.Stopped (stopped_idle before command (content_of memory_story ride) after step) stands
reports_seen before after command (replies.Recovered summary) ride step stands =
    reports_idle ride after (replies.Recovered summary) (recovered_idle before command summary (content_of memory_story ride) after step) stands
reports_seen before after command reply ride step stands = tt

-- whatever a power cut leaves of a ride is as its history allows
pub stands_rests : (ride : Ride Memory) (history : History) → StandsIn true memory_story ride history →
    LeavesAllowed (ended history) (memory_story (disk_in ride))
stands_rests (rides.Idle disk) (Idle claims begun) stands = stands
stands_rests (rides.Idle disk) (Riding list promise reopened failed) stands = absurd stands
stands_rests (rides.Riding recorder) history stands =
    ended_rests true memory_story history recorder stands
    (λ list committed at. at_end (StandsFor committed) _ _ (stays_stand _ _ list committed (at.holds refl)))

pub reply_of_outcome : (reply : Reply) (file : List ℕ) → reply_in (outcome reply file) ≡ reply
reply_of_outcome replies.Done file = refl
reply_of_outcome replies.Stopped file = refl
reply_of_outcome (replies.Recovered summary) file = refl
reply_of_outcome (replies.Refused fault) file = refl
reply_of_outcome replies.NoRecorder file = refl

follows_runs : (checked : Bool) (before : History) (arranged : Arranged) (disk : Simulated) (choices : List ℕ) (events : List Event) (outcomes : List Outcome) →
    Follows checked before arranged disk choices events outcomes → Runs before arranged events outcomes
follows_runs checked before arranged disk choices [] [] follows = tt
follows_runs checked before arranged disk choices (event ∷ events) (outcome ∷ outcomes) follows = (
  follows.0,
  follows.2.step,
  follows.2.may_fail,
  follows_runs checked follows.0 (arranged_after arranged event.command outcome) follows.1 (drop (takes event.command choices disk.files.now) choices) events outcomes follows.3,
)
follows_runs checked before arranged disk choices [] (outcome ∷ outcomes) follows = absurd follows
follows_runs checked before arranged disk choices (event ∷ events) [] follows = absurd follows

-- answers that follow choice bytes are a history
pub is_history : (checked : Bool) (choices : List ℕ) (events : List Event) (outcomes : List Outcome) → FollowsChoices checked choices events outcomes → IsHistory events outcomes
is_history checked choices events outcomes follows = follows_runs checked at_first nothing_arranged at_start choices events outcomes follows
