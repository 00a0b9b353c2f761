-- What is not committed is of the last seconds, in a recording that commits by itself: for `laws`.
use Rattle.std.proofs.Common.{◌≡◌, ◌≢◌, inl, inr, ℕ, ◌+◌, ◌-◌, ◌<◌, ◌≤◌, Bool, true, false, true≢false, List, [], ◌∷◌, ◌++◌, Option, Some, None, length, take, drop, refl, sym, ◌∙◌, ap, subst, arith, append_assoc, append-nil, length-append}
use Rattle.std.specs.Prelude.{nat_le, unwrap_or}
use Rattle.std.proofs.lemmas.Bool.{leb-false}
use Rattle.std.specs.List.{AllByRecursion}
use Rattle.std.proofs.lemmas.List.{take-append-drop, drop-append-le, drop_all, length-take}
use Rattle.fit_activity.specs.declared.recording.entry.Entry.{Entry}
use Rattle.fit_activity.specs.declared.recording.entry.Entry.TheVariants.{Sample, Lap, Pause, Resume, Stop}
use Rattle.fit_activity.specs.declared.recording.refusal.Refusal.TheVariants as refusals
use Rattle.fit_activity.specs.declared.recording.start.Start.{Start}
use Rattle.fit_activity.specs.Rides.Recording.{Recorded, Started, Added, entry_time, is_stop, time_of}
use Rattle.fit_activity.specs.Rides.Refusal.{Allowed, AllowedAfter, refusal_of}
use Rattle.fit_activity.specs.Rides.Stretch.{end_time}
use Rattle.fit_activity.proofs.RunningTotals.Judged.{passes}
use Rattle.fit_activity.proofs.RunningTotals.Pushed.{last_given-push}
use Rattle.fit_recorder.specs.declared.fault.RecFault.TheVariants.{NotEmpty, Refused, Full, JournalFull, Device, Failed, NothingRecorded, Damaged}
use Rattle.fit_disk.specs.State.{Contents}
use Rattle.fit_recorder.specs.Files.Body.{StandsFor}
use Rattle.fit_disk.specs.Story.{Story, Throughout}
use Rattle.fit_disk.proofs.Moments.{weaker}
use Rattle.fit_histories.specs.Commands.{is_simulated}
use Rattle.fit_histories.specs.declared.command.Command.{Command}
use Rattle.fit_histories.specs.declared.command.Command.TheVariants as commands
use Rattle.fit_histories.specs.declared.reply.Reply.{Reply}
use Rattle.fit_histories.specs.declared.reply.Reply.TheVariants as replies
use Rattle.fit_histories.specs.Histories.Claims.{no_claim, whole, with_start}
use Rattle.fit_histories.specs.Histories.Table.{History, Idle, Riding, claims_of, was_begun, ended, Step, HandStep, StopStep}
use Rattle.fit_histories.specs.Rides.Replies.{is_ok}
use Rattle.fit_histories.specs.Rides.Standing.{LeavesAllowed, outcome}
use Rattle.fit_runs.specs.Rides.Dues.{times_on, oldest, is_due}
use Rattle.fit_runs.specs.Rides.Turns.{Turn, Asked, Faulty, IsAnswer, AnswersLine, AnswersLines, CommitsIfDue, EndsAt, GoesByTurns, is_due_after, times_after}
use Rattle.fit_runs.specs.Rides.Lost.{CommitsWell, ErasesNothing, HasAllBut, LosesAtMost, LosesLastSeconds}
use Rattle.fit_runs.proofs.Reported.Kept.{kept_throughout}
use Rattle.fit_runs.proofs.Reported.Recorded.{times_more}

-- ---- lists

all_push : {X : Type 0} (P : X → Type 0) (xs : List X) (x : X) → AllByRecursion P xs → P x → AllByRecursion P (xs ++ x ∷ [])
all_push P [] x all one = (one, tt)
all_push P (y ∷ xs) x all one = (all.0, all_push P xs x all.1 one)

all_weaker : {X : Type 0} (P Q : X → Type 0) → ((x : X) → P x → Q x) → (xs : List X) → AllByRecursion P xs → AllByRecursion Q xs
all_weaker P Q follows [] all = tt
all_weaker P Q follows (x ∷ xs) all = (follows x all.0, all_weaker P Q follows xs all.1)

-- the end is the time of the last entry
end_time-push : (list : List Recorded) (e : Entry) → end_time (list ++ Added e ∷ []) ≡ entry_time e
end_time-push list e = ap (λ (o : Option ℕ). unwrap_or o 0) (last_given-push (λ r. Some (time_of r)) list (Added e))

-- an entry that was taken does not come before it
last_of_after : (before list : List Recorded) (e : Entry) → AllowedAfter before (list ++ Added e ∷ []) → refusal_of (before ++ list) e ≡ None
last_of_after before [] e allowed = ap (λ b. refusal_of b e) (append-nil before) ∙ allowed.1
last_of_after before (Started s ∷ list) e allowed = absurd allowed
last_of_after before (Added x ∷ list) e allowed =
    ap (λ b. refusal_of b e) (sym (append_assoc before (Added x ∷ []) list)) ∙ last_of_after (before ++ Added x ∷ []) list e allowed.2

later : (list : List Recorded) (e : Entry) → Allowed (list ++ Added e ∷ []) → end_time list ≤ entry_time e
later [] e allowed = absurd allowed
later (Added x ∷ list) e allowed = absurd allowed
later (Started s ∷ list) e allowed = (passes (Started s ∷ list) e (last_of_after (Started s ∷ []) list e allowed.2)).later

-- ---- what the times since the last commit say of the list

-- the times go from the last commit to the end, and each entry after the first `promise` ones is no earlier than that commit
pub record Since (times : List ℕ) (list : List Recorded) (promise : ℕ) : Type 0 where
  pub newest : ℕ
  pub older : List ℕ
  pub are : times ≡ newest ∷ older
  pub ends : newest ≡ end_time list
  pub low : oldest newest older ≤ newest
  pub some : 1 ≤ promise
  pub held : promise ≤ length list
  pub after : AllByRecursion (λ r. oldest newest older ≤ time_of r) (drop promise list)

abbrev SinceIn : List ℕ → History → Type 0
SinceIn times (Riding list promise reopened false) = Since times list promise
SinceIn times _ = Unit {0}

-- what is not committed of the list is of the last seconds
abbrev Near : ℕ → History → Type 0
Near seconds (Riding list promise reopened false) = AllByRecursion (λ r. end_time list < time_of r + seconds) (drop promise list)
Near seconds _ = Unit {0}

-- after a turn, if no commit is due then
abbrev Follows : ℕ → List ℕ → Command → Bool → ℕ → History → Type 0
Follows seconds times command done last after =
    SinceIn (times_on times command done last) after × (is_due (Some seconds) times command done ≡ false → Near seconds after)

-- after a commit of the whole list
committed : (list : List Recorded) (time : ℕ) → time ≡ end_time list → 1 ≤ length list → Since (time ∷ []) list (length list)
committed list time ends some =
    let low : time ≤ time = omega arith in
    record {
      newest = time;
      older = [];
      are = refl;
      ends = ends;
      low = low;
      some = some;
      held = omega arith;
      after = rw (drop_all (length list) list (omega arith)) tt;
    }

all_near : (seconds : ℕ) (list : List Recorded) → AllByRecursion (λ r. end_time list < time_of r + seconds) (drop (length list) list)
all_near seconds list = rw (drop_all (length list) list (omega arith)) tt

-- ---- an entry more

module _ (times : List ℕ) (list : List Recorded) (promise : ℕ) (e : Entry) (known : Since times list promise) (allowed : Allowed (list ++ Added e ∷ [])) where
  -- it does not come before the last commit
  from_commit : oldest known.newest known.older ≤ entry_time e
  from_commit = omega (arith, later list e allowed, known.low, known.ends)

  each_from_commit : AllByRecursion (λ r. oldest known.newest known.older ≤ time_of r) (drop promise (list ++ Added e ∷ []))
  each_from_commit = rw (drop-append-le promise list (Added e ∷ []) known.held)
      (all_push (λ r. oldest known.newest known.older ≤ time_of r) (drop promise list) (Added e) known.after from_commit)

  taken : Since (entry_time e ∷ times) (list ++ Added e ∷ []) promise
  taken = record {
    newest = entry_time e;
    older = known.newest ∷ known.older;
    are = ap (λ (t : List ℕ). entry_time e ∷ t) known.are;
    ends = sym (end_time-push list e);
    low = from_commit;
    some = known.some;
    held = omega (arith, known.held, length-append list (Added e ∷ []));
    after = each_from_commit;
  }

  -- none is due: the entries since the last commit are of the last seconds
  near_taken : (seconds : ℕ) → nat_le seconds (entry_time e - oldest (entry_time e) times) ≡ false
      → AllByRecursion (λ r. end_time (list ++ Added e ∷ []) < time_of r + seconds) (drop promise (list ++ Added e ∷ []))
  near_taken seconds none =
      let since_commit = ap (λ (t : List ℕ). nat_le seconds (entry_time e - oldest (entry_time e) t)) (sym known.are) ∙ none in
      let few : entry_time e - oldest known.newest known.older < seconds = leb-false seconds (entry_time e - oldest known.newest known.older) since_commit in
      subst (λ (end : ℕ). AllByRecursion (λ r. end < time_of r + seconds) (drop promise (list ++ Added e ∷ []))) (sym (end_time-push list e))
      (all_weaker (λ r. oldest known.newest known.older ≤ time_of r) (λ r. entry_time e < time_of r + seconds) (λ r from. omega (arith, from, few, from_commit))
      (drop promise (list ++ Added e ∷ [])) each_from_commit)

-- ---- one turn

module _ (seconds : ℕ) (times : List ℕ) (last : ℕ) where
  then_is : (command : Command) (done : Bool) (after next : History) → after ≡ next → Follows seconds times command done last next → Follows seconds times command done last after
  then_is command done after next is follows = subst (Follows seconds times command done last) (sym is) follows

  hand_since : (before : History) (entry : Entry) (reply : Reply) (file : List ℕ) (after : History) → is_stop (Added entry) ≡ false → HandStep before entry (outcome reply file) after
      → SinceIn times before → Near seconds before → Follows seconds times (commands.Entry entry) (is_ok reply) last after
  hand_since (Riding list promise reopened false) entry replies.Done file after other step since near =
      then_is (commands.Entry entry) true after (Riding (list ++ Added entry ∷ []) promise reopened false) step.1
      (rw other (taken times list promise entry since step.0, λ none. near_taken times list promise entry since step.0 seconds none))
  hand_since (Riding list promise reopened false) entry replies.Stopped file after other step since near = absurd step
  hand_since (Riding list promise reopened false) entry (replies.Recovered summary) file after other step since near = absurd step
  hand_since (Riding list promise reopened false) entry replies.NoRecorder file after other step since near = absurd step
  hand_since (Riding list promise reopened false) entry (replies.Refused NotEmpty) file after other step since near = absurd step
  hand_since (Riding list promise reopened false) entry (replies.Refused (Refused refusal)) file after other step since near = then_is (commands.Entry entry) false after (Riding list promise reopened false) step.1 (since, λ none. near)
  hand_since (Riding list promise reopened false) entry (replies.Refused Full) file after other step since near = then_is (commands.Entry entry) false after (Riding list promise reopened false) step.1 (since, λ none. near)
  hand_since (Riding list promise reopened false) entry (replies.Refused JournalFull) file after other step since near = absurd step
  hand_since (Riding list promise reopened false) entry (replies.Refused Device) file after other step since near = then_is (commands.Entry entry) false after (Riding list promise reopened true) step.1 (tt, λ none. tt)
  hand_since (Riding list promise reopened false) entry (replies.Refused Failed) file after other step since near = absurd step
  hand_since (Riding list promise reopened false) entry (replies.Refused NothingRecorded) file after other step since near = absurd step
  hand_since (Riding list promise reopened false) entry (replies.Refused Damaged) file after other step since near = absurd step
  hand_since (Riding list promise reopened true) entry replies.Done file after other step since near = absurd step
  hand_since (Riding list promise reopened true) entry replies.Stopped file after other step since near = absurd step
  hand_since (Riding list promise reopened true) entry (replies.Recovered summary) file after other step since near = absurd step
  hand_since (Riding list promise reopened true) entry replies.NoRecorder file after other step since near = absurd step
  hand_since (Riding list promise reopened true) entry (replies.Refused NotEmpty) file after other step since near = absurd step
  hand_since (Riding list promise reopened true) entry (replies.Refused (Refused refusal)) file after other step since near = absurd step
  hand_since (Riding list promise reopened true) entry (replies.Refused Full) file after other step since near = absurd step
  hand_since (Riding list promise reopened true) entry (replies.Refused JournalFull) file after other step since near = absurd step
  hand_since (Riding list promise reopened true) entry (replies.Refused Device) file after other step since near = absurd step
  hand_since (Riding list promise reopened true) entry (replies.Refused Failed) file after other step since near = then_is (commands.Entry entry) false after (Riding list promise reopened true) step (tt, λ none. tt)
  hand_since (Riding list promise reopened true) entry (replies.Refused NothingRecorded) file after other step since near = absurd step
  hand_since (Riding list promise reopened true) entry (replies.Refused Damaged) file after other step since near = absurd step
  hand_since (Idle claims begun) entry replies.NoRecorder file after other step since near = then_is (commands.Entry entry) false after (Idle claims begun) step (tt, λ none. tt)
  hand_since (Idle claims begun) entry replies.Done file after other step since near = absurd step
  hand_since (Idle claims begun) entry replies.Stopped file after other step since near = absurd step
  hand_since (Idle claims begun) entry (replies.Recovered summary) file after other step since near = absurd step
  hand_since (Idle claims begun) entry (replies.Refused fault) file after other step since near = absurd step

  stop_since : (before : History) (time : ℕ) (reply : Reply) (file : List ℕ) (after : History) → StopStep before time (outcome reply file) after
      → SinceIn times before → Near seconds before → Follows seconds times (commands.Entry (Stop time)) (is_ok reply) last after
  stop_since (Riding list promise reopened false) time replies.Stopped file after step since near =
      then_is (commands.Entry (Stop time)) true after (Idle (whole (list ++ Added (Stop time) ∷ []) ∷ []) true) step.3 (tt, λ none. tt)
  stop_since (Riding list promise reopened false) time replies.Done file after step since near = absurd step
  stop_since (Riding list promise reopened false) time (replies.Recovered summary) file after step since near = absurd step
  stop_since (Riding list promise reopened false) time replies.NoRecorder file after step since near = absurd step
  stop_since (Riding list promise reopened false) time (replies.Refused NotEmpty) file after step since near = absurd step
  stop_since (Riding list promise reopened false) time (replies.Refused (Refused refusal)) file after step since near = then_is (commands.Entry (Stop time)) false after (Riding list promise reopened false) step.1 (since, λ none. near)
  stop_since (Riding list promise reopened false) time (replies.Refused Full) file after step since near = absurd step
  stop_since (Riding list promise reopened false) time (replies.Refused JournalFull) file after step since near = absurd step
  stop_since (Riding list promise reopened false) time (replies.Refused Device) file after step since near =
      then_is (commands.Entry (Stop time)) false after (Riding (list ++ Added (Stop time) ∷ []) promise reopened true) step.1 (tt, λ none. tt)
  stop_since (Riding list promise reopened false) time (replies.Refused Failed) file after step since near = absurd step
  stop_since (Riding list promise reopened false) time (replies.Refused NothingRecorded) file after step since near = absurd step
  stop_since (Riding list promise reopened false) time (replies.Refused Damaged) file after step since near = absurd step
  stop_since (Riding list promise reopened true) time replies.Done file after step since near = absurd step
  stop_since (Riding list promise reopened true) time replies.Stopped file after step since near = absurd step
  stop_since (Riding list promise reopened true) time (replies.Recovered summary) file after step since near = absurd step
  stop_since (Riding list promise reopened true) time replies.NoRecorder file after step since near = absurd step
  stop_since (Riding list promise reopened true) time (replies.Refused NotEmpty) file after step since near = absurd step
  stop_since (Riding list promise reopened true) time (replies.Refused (Refused refusal)) file after step since near = absurd step
  stop_since (Riding list promise reopened true) time (replies.Refused Full) file after step since near = absurd step
  stop_since (Riding list promise reopened true) time (replies.Refused JournalFull) file after step since near = absurd step
  stop_since (Riding list promise reopened true) time (replies.Refused Device) file after step since near = absurd step
  stop_since (Riding list promise reopened true) time (replies.Refused Failed) file after step since near = then_is (commands.Entry (Stop time)) false after (Riding list promise reopened true) step (tt, λ none. tt)
  stop_since (Riding list promise reopened true) time (replies.Refused NothingRecorded) file after step since near = absurd step
  stop_since (Riding list promise reopened true) time (replies.Refused Damaged) file after step since near = absurd step
  stop_since (Idle claims begun) time replies.NoRecorder file after step since near = then_is (commands.Entry (Stop time)) false after (Idle claims begun) step (tt, λ none. tt)
  stop_since (Idle claims begun) time replies.Done file after step since near = absurd step
  stop_since (Idle claims begun) time replies.Stopped file after step since near = absurd step
  stop_since (Idle claims begun) time (replies.Recovered summary) file after step since near = absurd step
  stop_since (Idle claims begun) time (replies.Refused fault) file after step since near = absurd step

  -- a commit that is ok
  commit_since : (before : History) (reply : Reply) (file : List ℕ) (after : History) → is_ok reply ≡ true → Step before commands.Commit (outcome reply file) after
      → SinceIn times before → Follows seconds times commands.Commit (is_ok reply) last after
  commit_since (Riding list promise reopened false) replies.Done file after ok step since =
      then_is commands.Commit true after (Riding list (length list) reopened false) step
      (subst (λ times. Since (take 1 times) list (length list)) (sym since.are) (committed list since.newest since.ends (omega (arith, since.some, since.held))), λ none. all_near seconds list)
  commit_since (Riding list promise reopened false) replies.Stopped file after ok step since = absurd step
  commit_since (Riding list promise reopened false) (replies.Recovered summary) file after ok step since = absurd step
  commit_since (Riding list promise reopened true) replies.Done file after ok step since = absurd step
  commit_since (Riding list promise reopened true) replies.Stopped file after ok step since = absurd step
  commit_since (Riding list promise reopened true) (replies.Recovered summary) file after ok step since = absurd step
  commit_since (Idle claims begun) replies.Done file after ok step since = absurd step
  commit_since (Idle claims begun) replies.Stopped file after ok step since = absurd step
  commit_since (Idle claims begun) (replies.Recovered summary) file after ok step since = absurd step
  commit_since before replies.NoRecorder file after ok step since = absurd (true≢false (sym ok))
  commit_since before (replies.Refused fault) file after ok step since = absurd (true≢false (sym ok))

  start_since : (before : History) (start : Start) (reply : Reply) (file : List ℕ) (after : History) → Step before (commands.Start start) (outcome reply file) after
      → Follows seconds times (commands.Start start) (is_ok reply) last after
  start_since before start replies.Done file after step =
      then_is (commands.Start start) true after (Riding (Started start ∷ []) 1 false false) step.2 (committed (Started start ∷ []) start.time refl (omega arith), λ none. tt)
  start_since before start (replies.Refused (Refused refusal)) file after step = then_is (commands.Start start) false after (ended before) step.1 (tt, λ none. tt)
  start_since before start (replies.Refused NotEmpty) file after step = then_is (commands.Start start) false after (ended before) step.2 (tt, λ none. tt)
  start_since before start (replies.Refused Device) file after step =
      then_is (commands.Start start) false after (Idle (with_start start (claims_of before)) true) step.1 (tt, λ none. tt)
  start_since before start replies.Stopped file after step = absurd step
  start_since before start (replies.Recovered summary) file after step = absurd step
  start_since before start replies.NoRecorder file after step = absurd step
  start_since before start (replies.Refused Full) file after step = absurd step
  start_since before start (replies.Refused JournalFull) file after step = absurd step
  start_since before start (replies.Refused Failed) file after step = absurd step
  start_since before start (replies.Refused NothingRecorded) file after step = absurd step
  start_since before start (replies.Refused Damaged) file after step = absurd step

  recover_since : (before : History) (reply : Reply) (file : List ℕ) (after : History) → Step before commands.Recover (outcome reply file) after
      → Follows seconds times commands.Recover (is_ok reply) last after
  recover_since before (replies.Recovered summary) file after step =
      then_is commands.Recover true after (Idle (whole step.list ∷ []) (was_begun before)) step.after_is (tt, λ none. tt)
  recover_since before (replies.Refused NothingRecorded) file after step = then_is commands.Recover false after (Idle (no_claim ∷ []) (was_begun before)) step.1 (tt, λ none. tt)
  recover_since before (replies.Refused Device) file after step = then_is commands.Recover false after (ended before) step (tt, λ none. tt)
  recover_since before replies.Done file after step = absurd step
  recover_since before replies.Stopped file after step = absurd step
  recover_since before replies.NoRecorder file after step = absurd step
  recover_since before (replies.Refused NotEmpty) file after step = absurd step
  recover_since before (replies.Refused (Refused refusal)) file after step = absurd step
  recover_since before (replies.Refused Full) file after step = absurd step
  recover_since before (replies.Refused JournalFull) file after step = absurd step
  recover_since before (replies.Refused Failed) file after step = absurd step
  recover_since before (replies.Refused Damaged) file after step = absurd step

  erase_since : (before : History) (reply : Reply) (file : List ℕ) (after : History) → Step before commands.Erase (outcome reply file) after
      → Follows seconds times commands.Erase (is_ok reply) last after
  erase_since before replies.Done file after step = then_is commands.Erase true after (Idle (no_claim ∷ []) false) step (tt, λ none. tt)
  erase_since before (replies.Refused Device) file after step = then_is commands.Erase false after (Idle (no_claim ∷ claims_of before) (was_begun before)) step (tt, λ none. tt)
  erase_since before replies.Stopped file after step = absurd step
  erase_since before (replies.Recovered summary) file after step = absurd step
  erase_since before replies.NoRecorder file after step = absurd step
  erase_since before (replies.Refused NotEmpty) file after step = absurd step
  erase_since before (replies.Refused (Refused refusal)) file after step = absurd step
  erase_since before (replies.Refused Full) file after step = absurd step
  erase_since before (replies.Refused JournalFull) file after step = absurd step
  erase_since before (replies.Refused Failed) file after step = absurd step
  erase_since before (replies.Refused NothingRecorded) file after step = absurd step
  erase_since before (replies.Refused Damaged) file after step = absurd step

  some_length : (list : List Recorded) → list ≢ [] → 1 ≤ length list
  some_length [] some = absurd (some refl)
  some_length (r ∷ list) some = omega arith

  reopen_since : (before : History) (reply : Reply) (file : List ℕ) (after : History) → Step before commands.Reopen (outcome reply file) after → EndsAt after last
      → Follows seconds times commands.Reopen (is_ok reply) last after
  reopen_since before replies.Done file after step ends =
      let list = step.0 in
      then_is commands.Reopen true after (Riding list (length list) true false) step.2
      (committed list last (subst (λ history. EndsAt history last) step.2 ends) (some_length list step.1.some), λ none. all_near seconds list)
  reopen_since before (replies.Refused NothingRecorded) file after step ends = then_is commands.Reopen false after (Idle (no_claim ∷ []) (was_begun before)) step.1 (tt, λ none. tt)
  reopen_since before (replies.Refused (Refused refusals.Stopped)) file after step ends = then_is commands.Reopen false after (ended before) step.2 (tt, λ none. tt)
  reopen_since before (replies.Refused JournalFull) file after step ends = then_is commands.Reopen false after (ended before) step.2 (tt, λ none. tt)
  reopen_since before (replies.Refused Device) file after step ends = then_is commands.Reopen false after (ended before) step (tt, λ none. tt)
  reopen_since before replies.Stopped file after step ends = absurd step
  reopen_since before (replies.Recovered summary) file after step ends = absurd step
  reopen_since before replies.NoRecorder file after step ends = absurd step
  reopen_since before (replies.Refused NotEmpty) file after step ends = absurd step
  reopen_since before (replies.Refused (Refused refusal)) file after step ends = absurd step
  reopen_since before (replies.Refused Full) file after step ends = absurd step
  reopen_since before (replies.Refused Failed) file after step ends = absurd step
  reopen_since before (replies.Refused Damaged) file after step ends = absurd step

  since_on : (before : History) (command : Command) (reply : Reply) (file : List ℕ) (after : History) → is_simulated command ≡ false → (command ≡ commands.Commit → is_ok reply ≡ true)
      → Step before command (outcome reply file) after → EndsAt after last → SinceIn times before → Near seconds before → Follows seconds times command (is_ok reply) last after
  since_on before (commands.Start start) reply file after real well step ends since near = start_since before start reply file after step
  since_on before (commands.Entry (Sample sample)) reply file after real well step ends since near = hand_since before (Sample sample) reply file after refl step since near
  since_on before (commands.Entry (Lap time)) reply file after real well step ends since near = hand_since before (Lap time) reply file after refl step since near
  since_on before (commands.Entry (Pause time)) reply file after real well step ends since near = hand_since before (Pause time) reply file after refl step since near
  since_on before (commands.Entry (Resume time)) reply file after real well step ends since near = hand_since before (Resume time) reply file after refl step since near
  since_on before (commands.Entry (Stop time)) reply file after real well step ends since near = stop_since before time reply file after step since near
  since_on before commands.Commit reply file after real well step ends since near = commit_since before reply file after (well refl) step since
  since_on before commands.Recover reply file after real well step ends since near = recover_since before reply file after step
  since_on before commands.Reopen reply file after real well step ends since near = reopen_since before reply file after step ends
  since_on before commands.Erase reply file after real well step ends since near = erase_since before reply file after step
  since_on before commands.Restart reply file after real well step ends since near = then_is commands.Restart (is_ok reply) after (ended before) step.1 (tt, λ none. tt)
  since_on before commands.Power reply file after real well step ends since near = absurd (true≢false real)
  since_on before (commands.Fail k) reply file after real well step ends since near = absurd (true≢false real)
  since_on before (commands.Cut k) reply file after real well step ends since near = absurd (true≢false real)

-- ---- lines

-- what holds after whole lines
pub record Bounded (seconds : ℕ) (times : List ℕ) (history : History) : Type 0 where
  pub since : SinceIn times history
  pub near : Near seconds history

goes_split : (before after : History) (old new : Story) (turns rest : List Turn) → GoesByTurns before old (turns ++ rest) after new
    → (here : History) × (mid : Story) × GoesByTurns before old turns here mid × GoesByTurns here mid rest after new
goes_split before after old new [] rest goes = (before, old, (refl, refl), goes)
goes_split before after old new (Asked event reply last ∷ turns) rest goes =
    let later = goes_split goes.0 after goes.1 new turns rest goes.4 in
    (later.0, later.1, (goes.0, goes.1, goes.2, goes.3, later.2), later.3)
goes_split before after old new (Faulty number fault ∷ turns) rest goes = goes_split before after old new turns rest goes

well_split : (turns rest : List Turn) → CommitsWell (turns ++ rest) → CommitsWell turns × CommitsWell rest
well_split [] rest well = (tt, well)
well_split (Asked event reply last ∷ turns) rest well = let later = well_split turns rest well.1 in ((well.0, later.0), later.1)
well_split (Faulty number fault ∷ turns) rest well = well_split turns rest well

same_state : (seconds : ℕ) (times : List ℕ) (before here : History) → here ≡ before → Bounded seconds times before → Bounded seconds times here
same_state seconds times before here is known = subst (Bounded seconds times) (sym is) known

-- only `simulate` runs no command of these
abbrev IsReal : Turn → Type 0
IsReal (Asked event reply last) = is_simulated event.command ≡ false
IsReal (Faulty number fault) = Unit {0}

by_commit : (seconds : ℕ) (times : List ℕ) (number : ℕ) (more : List Turn) → CommitsIfDue true number more → (before here : History) (old mid : Story) → CommitsWell more
    → GoesByTurns before old more here mid → SinceIn times before → Bounded seconds (times_after times more) here
by_commit seconds times number more commits before here old mid well goes since =
    subst (λ turns. CommitsWell turns → GoesByTurns before old turns here mid → Bounded seconds (times_after times turns) here) (sym commits.2)
    (λ well goes.
    let on = commit_since seconds times commits.1 before commits.0 goes.2.file goes.0 (well.0 refl) goes.2.step since in
    same_state seconds (take 1 times) goes.0 here goes.4.0 (record { since = on.0; near = on.1 refl }))
    well goes

-- after an answer, and a commit if one is due
after_answer : (seconds : ℕ) (times : List ℕ) (number : ℕ) (answer : Turn) (more : List Turn) (due : Bool) (before here : History) (old mid : Story) → IsReal answer
    → is_due_after (Some seconds) times answer ≡ due → CommitsIfDue due number more → CommitsWell (answer ∷ more) → GoesByTurns before old (answer ∷ more) here mid
    → Bounded seconds times before → Bounded seconds (times_after times (answer ∷ more)) here
after_answer seconds times number (Faulty at fault) more true before here old mid real is commits well goes known = absurd (true≢false (sym is))
after_answer seconds times number (Faulty at fault) [] false before here old mid real is commits well goes known = same_state seconds times before here goes.0 known
after_answer seconds times number (Faulty at fault) (turn ∷ more) false before here old mid real is commits well goes known = absurd cc
after_answer seconds times number (Asked event reply last) [] false before here old mid real is commits well goes known =
    let on = since_on seconds times last before event.command reply goes.2.file goes.0 real well.0 goes.2.step goes.3 known.since known.near in
    same_state seconds (times_on times event.command (is_ok reply) last) goes.0 here goes.4.0 (record { since = on.0; near = on.1 is })
after_answer seconds times number (Asked event reply last) (turn ∷ more) false before here old mid real is commits well goes known = absurd cc
after_answer seconds times number (Asked event reply last) more true before here old mid real is commits well goes known =
    let on = since_on seconds times last before event.command reply goes.2.file goes.0 real well.0 goes.2.step goes.3 known.since known.near in
    by_commit seconds (times_on times event.command (is_ok reply) last) number more commits goes.0 here goes.1 mid well.1 goes.4 on.0

answer_is_real : (number : ℕ) (line : List ℕ) (answer : Turn) → IsAnswer number line answer → IsReal answer
answer_is_real number line (Asked event reply last) is = is.2
answer_is_real number line (Faulty at fault) is = tt

after_line : (seconds : ℕ) (times : List ℕ) (number : ℕ) (line : List ℕ) (own : List Turn) (before here : History) (old mid : Story)
    → AnswersLine (Some seconds) times number line own → CommitsWell own → GoesByTurns before old own here mid → Bounded seconds times before → Bounded seconds (times_after times own) here
after_line seconds times number line own before here old mid (inl none) well goes known =
    subst (λ turns. GoesByTurns before old turns here mid → Bounded seconds (times_after times turns) here) (sym none.1)
    (λ goes. same_state seconds times before here goes.0 known) goes
after_line seconds times number line own before here old mid (inr answers) well goes known =
    subst (λ turns. CommitsWell turns → GoesByTurns before old turns here mid → Bounded seconds (times_after times turns) here) (sym answers.4)
    (λ well goes. after_answer seconds times number answers.0 answers.1 (is_due_after (Some seconds) times answers.0) before here old mid
    (answer_is_real number line answers.0 answers.2) refl answers.3 well goes known)
    well goes

after_lines : (seconds : ℕ) (times : List ℕ) (number : ℕ) (lines : List (List ℕ)) (turns : List Turn) (before here : History) (old mid : Story)
    → AnswersLines (Some seconds) times number lines turns → CommitsWell turns → GoesByTurns before old turns here mid → Bounded seconds times before
    → Bounded seconds (times_after times turns) here
after_lines seconds times number [] turns before here old mid answers well goes known =
    subst (λ turns. GoesByTurns before old turns here mid → Bounded seconds (times_after times turns) here) (sym answers)
    (λ goes. same_state seconds times before here goes.0 known) goes
after_lines seconds times number (line ∷ lines) turns before here old mid answers well goes known =
    let own = answers.0 in
    let rest = answers.1 in
    let wells = well_split own rest (subst CommitsWell answers.2 well) in
    let split = goes_split before here old mid own rest (subst (λ turns. GoesByTurns before old turns here mid) answers.2 goes) in
    let first = after_line seconds times number line own before split.0 old split.1 answers.3 wells.0 split.2 known in
    subst (λ times. Bounded seconds times here) (sym (times_more times own rest) ∙ ap (times_after times) (sym answers.2))
    (after_lines seconds (times_after times own) (number + 1) lines rest split.0 here split.1 mid answers.4 wells.1 split.3 first)

-- ---- at each moment

front_has : (seconds : ℕ) (list : List Recorded) (promise : ℕ) → AllByRecursion (λ r. end_time list < time_of r + seconds) (drop promise list)
    → (contents : Contents) → (more : List Recorded) × StandsFor (take promise list ++ more) contents → HasAllBut seconds list contents
front_has seconds list promise near contents stands =
    record { kept = take promise list; lost = drop promise list; split = sym (take-append-drop promise list); late = near; more = stands.0; stands = stands.1 }

loses : (seconds : ℕ) (times : List ℕ) (here after : History) (mid new : Story) (rest : List Turn) → ErasesNothing rest → GoesByTurns here mid rest after new → LeavesAllowed (ended after) new
    → Bounded seconds times here → LosesAtMost seconds here mid new
loses seconds times (Idle claims begun) after mid new rest nothing goes rests known = tt
loses seconds times (Riding list promise reopened true) after mid new rest nothing goes rests known = tt
loses seconds times (Riding list promise reopened false) after mid new rest nothing goes rests known =
    weaker (λ contents. (more : List Recorded) × StandsFor (take promise list ++ more) contents) (HasAllBut seconds list) (front_has seconds list promise known.near) mid new
    (by (take promise list) refl)
  where
    by : (front : List Recorded) → take promise list ≡ front → Throughout (λ contents. (more : List Recorded) × StandsFor (take promise list ++ more) contents) mid new
    by [] is = absurd (omega (arith, known.since.some, known.since.held, length-take promise list, ap (λ (list : List Recorded). length list) is))
    by (first ∷ others) is =
        subst (λ (front : List Recorded). Throughout (λ contents. (more : List Recorded) × StandsFor (front ++ more) contents) mid new) (sym is)
        (kept_throughout first others (Riding list promise reopened false) after mid new rest nothing (
          record {
            more = drop promise list;
            is = sym (take-append-drop promise list) ∙ ap (λ (front : List Recorded). front ++ drop promise list) is;
            least = omega (arith, length-take promise list, ap (λ (list : List Recorded). length list) is);
          },
          tt,
        ) goes rests)

pub loses_last_seconds : LosesLastSeconds
loses_last_seconds seconds claims begun old new lines turns rest left answers well nothing =
    let split = goes_split (Idle claims begun) left.after old new turns rest left.goes in
    let known = after_lines seconds [] 1 lines turns (Idle claims begun) split.0 old split.1 answers well split.2 (record { since = tt; near = tt }) in
    (split.0, split.1, split.2, split.3, loses seconds (times_after [] turns) split.0 left.after split.1 new rest nothing split.3 left.rests known)
