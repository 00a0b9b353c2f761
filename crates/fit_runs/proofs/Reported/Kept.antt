-- What was committed is kept at each moment until an erasing: for `laws`.
use Rattle.std.proofs.Common.{◌≡◌, ◌≢◌, inl, inr, ⊎_elim, ℕ, ◌≤◌, true, false, true≢false, List, [], ◌∷◌, ◌++◌, length, take, drop, refl, sym, ◌∙◌, ap, subst, arith, append_assoc, length-append}
use Rattle.std.specs.Prelude.{IsTrue}
use Rattle.std.specs.List.{AllByRecursion}
use Rattle.std.proofs.lemmas.List.{take-append-drop, length-take}
use Rattle.fit_activity.specs.declared.recording.entry.Entry.TheVariants.{Sample, Lap, Pause, Resume, Stop}
use Rattle.fit_activity.specs.declared.recording.entry.Entry.{Entry}
use Rattle.fit_activity.specs.declared.recording.refusal.Refusal.TheVariants as refusals
use Rattle.fit_activity.specs.declared.recording.start.Start.{Start}
use Rattle.fit_activity.specs.Rides.Recording.{Recorded, Added}
use Rattle.fit_disk.specs.State.{Contents, LeavesOnly}
use Rattle.fit_disk.specs.Story.{Story, Throughout}
use Rattle.fit_disk.proofs.Moments.{weaker, begins, stays, then_run}
use Rattle.fit_recorder.specs.declared.fault.RecFault.TheVariants.{NotEmpty, Refused, Full, JournalFull, Device, Failed, NothingRecorded, Damaged}
use Rattle.fit_recorder.specs.Files.Body.{StandsFor}
use Rattle.fit_histories.specs.declared.command.Command.{Command}
use Rattle.fit_histories.specs.declared.command.Command.TheVariants as commands
use Rattle.fit_histories.specs.declared.reply.Reply.{Reply}
use Rattle.fit_histories.specs.declared.reply.Reply.TheVariants as replies
use Rattle.fit_histories.specs.Histories.Claims.{Claim, claim_of, whole, is_none, has_none, MayBe, with_start}
use Rattle.fit_histories.specs.Histories.Table.{History, Idle, Riding, claims_of, was_begun, ended, Step, HandStep, StopStep}
use Rattle.fit_histories.specs.Rides.Moments.{MayLeave}
use Rattle.fit_histories.specs.Rides.Standing.{Fits, LeavesAllowed, outcome}
use Rattle.fit_runs.specs.Rides.Turns.{Turn, Asked, Faulty, GoesByTurns}
use Rattle.fit_runs.specs.Rides.Lost.{ErasesNothing}

-- the shorter of two beginnings of a list is a beginning of the longer
prefix_in : (a b c d : List Recorded) → a ++ b ≡ c ++ d → length a ≤ length c → (more : List Recorded) × (c ≡ a ++ more)
prefix_in [] b c d is few = (c, refl)
prefix_in (x ∷ a) b [] d is few = absurd (omega arith)
prefix_in (x ∷ a) b (y ∷ c) d is few =
    let head : x ≡ y = cc in
    let tail : a ++ b ≡ c ++ d = cc in
    let found = prefix_in a b c d tail (omega arith) in
    (found.0, ap (λ (t : List Recorded). y ∷ t) found.1 ∙ ap (λ (z : Recorded). z ∷ (a ++ found.0)) (sym head))

-- these entries, of which there is one at least, are kept
module _ (first : Recorded) (others : List Recorded) where
  abbrev pub kept : List Recorded
  kept = first ∷ others

  -- the list of a claim begins with them, and they are promised
  pub record Promises (claim : Claim) : Type 0 where
    pub more : List Recorded
    pub is : claim.list ≡ kept ++ more
    pub least : length kept ≤ claim.promise

  abbrev pub Holds : History → Type 0
  Holds history = AllByRecursion Promises (claims_of history)

  -- the files stand for a list that begins with them
  abbrev pub HasFront : Contents → Type 0
  HasFront contents = (more : List Recorded) × StandsFor (kept ++ more) contents

  some_claim : (claim : Claim) → Promises claim → is_none claim ≡ false
  some_claim claim known = rw known.is refl

  no_none : (claims : List Claim) → AllByRecursion Promises claims → has_none claims ≡ false
  no_none [] all = refl
  no_none (claim ∷ claims) all = rw (some_claim claim all.0) (no_none claims all.1)

  not_none : {A : Type 0} (history : History) → Holds history → IsTrue (has_none (claims_of history)) → A
  not_none history all none = absurd (true≢false (sym none ∙ no_none (claims_of history) all))

  -- so does each list that may be recorded
  found : (claims : List Claim) → AllByRecursion Promises claims → (list : List Recorded) → MayBe claims list → (more : List Recorded) × (list ≡ kept ++ more)
  found [] all list none = absurd none
  found (claim ∷ claims) all list (inl begun) =
      prefix_in kept all.0.more list begun.rest (sym all.0.is ∙ begun.begins) (omega (arith, all.0.least, begun.least))
  found (claim ∷ claims) all list (inr may) = found claims all.1 list may

  -- ---- what a command may leave

  with_more : (list : List Recorded) (contents : Contents) → (more : List Recorded) × (list ≡ kept ++ more) → StandsFor list contents → HasFront contents
  with_more list contents at stands = (at.0, subst (λ (list : List Recorded). StandsFor list contents) at.1 stands)

  fits_front : (history : History) (contents : Contents) → Holds history → Fits history contents → HasFront contents
  fits_front history contents all fits = ⊎_elim
      (λ stood. with_more stood.0 contents (found (claims_of history) all stood.0 stood.1) stood.2)
      (λ none. not_none history all none.0) fits.keeps

  -- what is committed of a list, and the list with more entries
  taken : (list : List Recorded) (promise : ℕ) → Promises (claim_of list promise) → (more : List Recorded) × (take promise list ≡ kept ++ more)
  taken list promise known =
      prefix_in kept known.more (take promise list) (drop promise list) (sym known.is ∙ sym (take-append-drop promise list))
      (omega (arith, known.least, length-take promise list, ap (λ (list : List Recorded). length list) known.is, length-append kept known.more))

  longer : (list more : List Recorded) (promise : ℕ) → Promises (claim_of list promise) → (all : List Recorded) × (list ++ more ≡ kept ++ all)
  longer list more promise known = (known.more ++ more, ap (λ (list : List Recorded). list ++ more) known.is ∙ append_assoc kept known.more more)

  same_list : (list : List Recorded) (promise : ℕ) → Promises (claim_of list promise) → (more : List Recorded) × (list ≡ kept ++ more)
  same_list list promise known = (known.more, known.is)

  leaves_front : (before : History) (command : Command) → command ≢ commands.Erase → Holds before → (contents : Contents) → MayLeave before command contents → HasFront contents
  leaves_front before (commands.Start start) other all contents may =
      fits_front (Idle (with_start start (claims_of before)) true) contents (rw (no_none (claims_of before) all) all) may
  leaves_front before commands.Erase other all contents may = absurd (other refl)
  leaves_front (Riding list promise reopened false) (commands.Entry (Stop time)) other all contents may =
      ⊎_elim (with_more (take promise list) contents (taken list promise all.0)) (with_more (list ++ Added (Stop time) ∷ []) contents (longer list (Added (Stop time) ∷ []) promise all.0)) may
  leaves_front (Riding list promise reopened false) (commands.Entry (Sample sample)) other all contents may = with_more (take promise list) contents (taken list promise all.0) may
  leaves_front (Riding list promise reopened false) (commands.Entry (Lap time)) other all contents may = with_more (take promise list) contents (taken list promise all.0) may
  leaves_front (Riding list promise reopened false) (commands.Entry (Pause time)) other all contents may = with_more (take promise list) contents (taken list promise all.0) may
  leaves_front (Riding list promise reopened false) (commands.Entry (Resume time)) other all contents may = with_more (take promise list) contents (taken list promise all.0) may
  leaves_front (Riding list promise reopened true) (commands.Entry (Sample sample)) other all contents may = fits_front (Riding list promise reopened true) contents all may
  leaves_front (Idle claims begun) (commands.Entry (Sample sample)) other all contents may = fits_front (Idle claims begun) contents all may
  leaves_front (Riding list promise reopened true) (commands.Entry (Lap time)) other all contents may = fits_front (Riding list promise reopened true) contents all may
  leaves_front (Idle claims begun) (commands.Entry (Lap time)) other all contents may = fits_front (Idle claims begun) contents all may
  leaves_front (Riding list promise reopened true) (commands.Entry (Pause time)) other all contents may = fits_front (Riding list promise reopened true) contents all may
  leaves_front (Idle claims begun) (commands.Entry (Pause time)) other all contents may = fits_front (Idle claims begun) contents all may
  leaves_front (Riding list promise reopened true) (commands.Entry (Resume time)) other all contents may = fits_front (Riding list promise reopened true) contents all may
  leaves_front (Idle claims begun) (commands.Entry (Resume time)) other all contents may = fits_front (Idle claims begun) contents all may
  leaves_front (Riding list promise reopened true) (commands.Entry (Stop time)) other all contents may = fits_front (Riding list promise reopened true) contents all may
  leaves_front (Idle claims begun) (commands.Entry (Stop time)) other all contents may = fits_front (Idle claims begun) contents all may
  leaves_front (Riding list promise reopened false) commands.Commit other all contents may =
      ⊎_elim (with_more (take promise list) contents (taken list promise all.0)) (with_more list contents (same_list list promise all.0)) may
  leaves_front (Riding list promise reopened true) commands.Commit other all contents may = fits_front (Riding list promise reopened true) contents all may
  leaves_front (Idle claims begun) commands.Commit other all contents may = fits_front (Idle claims begun) contents all may
  leaves_front before commands.Restart other all contents may = fits_front before contents all may
  leaves_front before commands.Recover other all contents may = fits_front before contents all may
  leaves_front before commands.Reopen other all contents may = fits_front before contents all may
  leaves_front before (commands.Fail k) other all contents may = fits_front before contents all may
  leaves_front before (commands.Cut k) other all contents may = fits_front before contents all may
  leaves_front before commands.Power other all contents may = fits_front before contents all may

  -- ---- a step of the history

  promises : (list : List Recorded) (promise : ℕ) → (more : List Recorded) × (list ≡ kept ++ more) → length kept ≤ promise → Promises (claim_of list promise)
  promises list promise at least = record { more = at.0; is = at.1; least = least }

  -- all of a list that begins with them
  whole_holds : (list : List Recorded) → (more : List Recorded) × (list ≡ kept ++ more) → Promises (claim_of list (length list))
  whole_holds list at = promises list (length list) at (omega (arith, ap (λ (list : List Recorded). length list) at.1, length-append kept at.0))

  more_holds : (list more : List Recorded) (promise : ℕ) → Promises (claim_of list promise) → Promises (claim_of (list ++ more) promise)
  more_holds list more promise known = promises (list ++ more) promise (longer list more promise known) known.least

  is_then : (after next : History) → after ≡ next → Holds next → Holds after
  is_then after next is all = subst Holds (sym is) all

  start_on : (before : History) (start : Start) (reply : Reply) (file : List ℕ) (after : History) → Step before (commands.Start start) (outcome reply file) after → Holds before → Holds after
  start_on before start replies.Done file after step all = not_none before all step.0
  start_on before start replies.Stopped file after step all = absurd step
  start_on before start (replies.Recovered summary) file after step all = absurd step
  start_on before start replies.NoRecorder file after step all = absurd step
  start_on before start (replies.Refused (Refused refusal)) file after step all = is_then after (ended before) step.1 all
  start_on before start (replies.Refused NotEmpty) file after step all = is_then after (ended before) step.2 all
  start_on before start (replies.Refused Device) file after step all =
      is_then after (Idle (with_start start (claims_of before)) true) step.1 (rw (no_none (claims_of before) all) all)
  start_on before start (replies.Refused Full) file after step all = absurd step
  start_on before start (replies.Refused JournalFull) file after step all = absurd step
  start_on before start (replies.Refused Failed) file after step all = absurd step
  start_on before start (replies.Refused NothingRecorded) file after step all = absurd step
  start_on before start (replies.Refused Damaged) file after step all = absurd step

  -- an entry that is no stop
  hand_on : (before : History) (entry : Entry) (reply : Reply) (file : List ℕ) (after : History) → HandStep before entry (outcome reply file) after → Holds before → Holds after
  hand_on (Idle claims begun) entry replies.NoRecorder file after step all = is_then after (Idle claims begun) step all
  hand_on (Idle claims begun) entry replies.Done file after step all = absurd step
  hand_on (Idle claims begun) entry replies.Stopped file after step all = absurd step
  hand_on (Idle claims begun) entry (replies.Recovered summary) file after step all = absurd step
  hand_on (Idle claims begun) entry (replies.Refused fault) file after step all = absurd step
  hand_on (Riding list promise reopened false) entry replies.Done file after step all =
      is_then after (Riding (list ++ Added entry ∷ []) promise reopened false) step.1 (more_holds list (Added entry ∷ []) promise all.0, tt)
  hand_on (Riding list promise reopened false) entry replies.Stopped file after step all = absurd step
  hand_on (Riding list promise reopened false) entry (replies.Recovered summary) file after step all = absurd step
  hand_on (Riding list promise reopened false) entry replies.NoRecorder file after step all = absurd step
  hand_on (Riding list promise reopened false) entry (replies.Refused NotEmpty) file after step all = absurd step
  hand_on (Riding list promise reopened false) entry (replies.Refused (Refused refusal)) file after step all = is_then after (Riding list promise reopened false) step.1 all
  hand_on (Riding list promise reopened false) entry (replies.Refused Full) file after step all = is_then after (Riding list promise reopened false) step.1 all
  hand_on (Riding list promise reopened false) entry (replies.Refused JournalFull) file after step all = absurd step
  hand_on (Riding list promise reopened false) entry (replies.Refused Device) file after step all = is_then after (Riding list promise reopened true) step.1 all
  hand_on (Riding list promise reopened false) entry (replies.Refused Failed) file after step all = absurd step
  hand_on (Riding list promise reopened false) entry (replies.Refused NothingRecorded) file after step all = absurd step
  hand_on (Riding list promise reopened false) entry (replies.Refused Damaged) file after step all = absurd step
  hand_on (Riding list promise reopened true) entry replies.Done file after step all = absurd step
  hand_on (Riding list promise reopened true) entry replies.Stopped file after step all = absurd step
  hand_on (Riding list promise reopened true) entry (replies.Recovered summary) file after step all = absurd step
  hand_on (Riding list promise reopened true) entry replies.NoRecorder file after step all = absurd step
  hand_on (Riding list promise reopened true) entry (replies.Refused NotEmpty) file after step all = absurd step
  hand_on (Riding list promise reopened true) entry (replies.Refused (Refused refusal)) file after step all = absurd step
  hand_on (Riding list promise reopened true) entry (replies.Refused Full) file after step all = absurd step
  hand_on (Riding list promise reopened true) entry (replies.Refused JournalFull) file after step all = absurd step
  hand_on (Riding list promise reopened true) entry (replies.Refused Device) file after step all = absurd step
  hand_on (Riding list promise reopened true) entry (replies.Refused Failed) file after step all = is_then after (Riding list promise reopened true) step all
  hand_on (Riding list promise reopened true) entry (replies.Refused NothingRecorded) file after step all = absurd step
  hand_on (Riding list promise reopened true) entry (replies.Refused Damaged) file after step all = absurd step

  commit_on : (before : History) (reply : Reply) (file : List ℕ) (after : History) → Step before commands.Commit (outcome reply file) after → Holds before → Holds after
  commit_on (Idle claims begun) replies.NoRecorder file after step all = is_then after (Idle claims begun) step all
  commit_on (Idle claims begun) replies.Done file after step all = absurd step
  commit_on (Idle claims begun) replies.Stopped file after step all = absurd step
  commit_on (Idle claims begun) (replies.Recovered summary) file after step all = absurd step
  commit_on (Idle claims begun) (replies.Refused fault) file after step all = absurd step
  commit_on (Riding list promise reopened false) replies.Done file after step all =
      is_then after (Riding list (length list) reopened false) step (whole_holds list (same_list list promise all.0), tt)
  commit_on (Riding list promise reopened false) replies.Stopped file after step all = absurd step
  commit_on (Riding list promise reopened false) (replies.Recovered summary) file after step all = absurd step
  commit_on (Riding list promise reopened false) replies.NoRecorder file after step all = absurd step
  commit_on (Riding list promise reopened false) (replies.Refused NotEmpty) file after step all = absurd step
  commit_on (Riding list promise reopened false) (replies.Refused (Refused refusal)) file after step all = absurd step
  commit_on (Riding list promise reopened false) (replies.Refused Full) file after step all = absurd step
  commit_on (Riding list promise reopened false) (replies.Refused JournalFull) file after step all = is_then after (Riding list promise reopened false) step.1 all
  commit_on (Riding list promise reopened false) (replies.Refused Device) file after step all = is_then after (Riding list promise reopened true) step all
  commit_on (Riding list promise reopened false) (replies.Refused Failed) file after step all = absurd step
  commit_on (Riding list promise reopened false) (replies.Refused NothingRecorded) file after step all = absurd step
  commit_on (Riding list promise reopened false) (replies.Refused Damaged) file after step all = absurd step
  commit_on (Riding list promise reopened true) replies.Done file after step all = absurd step
  commit_on (Riding list promise reopened true) replies.Stopped file after step all = absurd step
  commit_on (Riding list promise reopened true) (replies.Recovered summary) file after step all = absurd step
  commit_on (Riding list promise reopened true) replies.NoRecorder file after step all = absurd step
  commit_on (Riding list promise reopened true) (replies.Refused NotEmpty) file after step all = absurd step
  commit_on (Riding list promise reopened true) (replies.Refused (Refused refusal)) file after step all = absurd step
  commit_on (Riding list promise reopened true) (replies.Refused Full) file after step all = absurd step
  commit_on (Riding list promise reopened true) (replies.Refused JournalFull) file after step all = absurd step
  commit_on (Riding list promise reopened true) (replies.Refused Device) file after step all = absurd step
  commit_on (Riding list promise reopened true) (replies.Refused Failed) file after step all = is_then after (Riding list promise reopened true) step all
  commit_on (Riding list promise reopened true) (replies.Refused NothingRecorded) file after step all = absurd step
  commit_on (Riding list promise reopened true) (replies.Refused Damaged) file after step all = absurd step

  stop_on : (before : History) (time : ℕ) (reply : Reply) (file : List ℕ) (after : History) → StopStep before time (outcome reply file) after → Holds before → Holds after
  stop_on (Idle claims begun) time replies.NoRecorder file after step all = is_then after (Idle claims begun) step all
  stop_on (Idle claims begun) time replies.Done file after step all = absurd step
  stop_on (Idle claims begun) time replies.Stopped file after step all = absurd step
  stop_on (Idle claims begun) time (replies.Recovered summary) file after step all = absurd step
  stop_on (Idle claims begun) time (replies.Refused fault) file after step all = absurd step
  stop_on (Riding list promise reopened false) time replies.Stopped file after step all =
      is_then after (Idle (whole (list ++ Added (Stop time) ∷ []) ∷ []) true) step.3 (whole_holds (list ++ Added (Stop time) ∷ []) (longer list (Added (Stop time) ∷ []) promise all.0), tt)
  stop_on (Riding list promise reopened false) time replies.Done file after step all = absurd step
  stop_on (Riding list promise reopened false) time (replies.Recovered summary) file after step all = absurd step
  stop_on (Riding list promise reopened false) time replies.NoRecorder file after step all = absurd step
  stop_on (Riding list promise reopened false) time (replies.Refused NotEmpty) file after step all = absurd step
  stop_on (Riding list promise reopened false) time (replies.Refused (Refused refusal)) file after step all = is_then after (Riding list promise reopened false) step.1 all
  stop_on (Riding list promise reopened false) time (replies.Refused Full) file after step all = absurd step
  stop_on (Riding list promise reopened false) time (replies.Refused JournalFull) file after step all = absurd step
  stop_on (Riding list promise reopened false) time (replies.Refused Device) file after step all =
      is_then after (Riding (list ++ Added (Stop time) ∷ []) promise reopened true) step.1 (more_holds list (Added (Stop time) ∷ []) promise all.0, tt)
  stop_on (Riding list promise reopened false) time (replies.Refused Failed) file after step all = absurd step
  stop_on (Riding list promise reopened false) time (replies.Refused NothingRecorded) file after step all = absurd step
  stop_on (Riding list promise reopened false) time (replies.Refused Damaged) file after step all = absurd step
  stop_on (Riding list promise reopened true) time replies.Done file after step all = absurd step
  stop_on (Riding list promise reopened true) time replies.Stopped file after step all = absurd step
  stop_on (Riding list promise reopened true) time (replies.Recovered summary) file after step all = absurd step
  stop_on (Riding list promise reopened true) time replies.NoRecorder file after step all = absurd step
  stop_on (Riding list promise reopened true) time (replies.Refused NotEmpty) file after step all = absurd step
  stop_on (Riding list promise reopened true) time (replies.Refused (Refused refusal)) file after step all = absurd step
  stop_on (Riding list promise reopened true) time (replies.Refused Full) file after step all = absurd step
  stop_on (Riding list promise reopened true) time (replies.Refused JournalFull) file after step all = absurd step
  stop_on (Riding list promise reopened true) time (replies.Refused Device) file after step all = absurd step
  stop_on (Riding list promise reopened true) time (replies.Refused Failed) file after step all = is_then after (Riding list promise reopened true) step all
  stop_on (Riding list promise reopened true) time (replies.Refused NothingRecorded) file after step all = absurd step
  stop_on (Riding list promise reopened true) time (replies.Refused Damaged) file after step all = absurd step

  recover_on : (before : History) (reply : Reply) (file : List ℕ) (after : History) → Step before commands.Recover (outcome reply file) after → Holds before → Holds after
  recover_on before (replies.Recovered summary) file after step all =
      is_then after (Idle (whole step.list ∷ []) (was_begun before)) step.after_is (whole_holds step.list (found (claims_of before) all step.list step.may_be), tt)
  recover_on before (replies.Refused NothingRecorded) file after step all = not_none before all step.0
  recover_on before (replies.Refused Device) file after step all = is_then after (ended before) step all
  recover_on before replies.Done file after step all = absurd step
  recover_on before replies.Stopped file after step all = absurd step
  recover_on before replies.NoRecorder file after step all = absurd step
  recover_on before (replies.Refused NotEmpty) file after step all = absurd step
  recover_on before (replies.Refused (Refused refusal)) file after step all = absurd step
  recover_on before (replies.Refused Full) file after step all = absurd step
  recover_on before (replies.Refused JournalFull) file after step all = absurd step
  recover_on before (replies.Refused Failed) file after step all = absurd step
  recover_on before (replies.Refused Damaged) file after step all = absurd step

  reopen_on : (before : History) (reply : Reply) (file : List ℕ) (after : History) → Step before commands.Reopen (outcome reply file) after → Holds before → Holds after
  reopen_on before replies.Done file after step all =
      is_then after (Riding step.0 (length step.0) true false) step.2 (whole_holds step.0 (found (claims_of before) all step.0 step.1.may_be), tt)
  reopen_on before (replies.Refused NothingRecorded) file after step all = not_none before all step.0
  reopen_on before (replies.Refused (Refused refusals.Stopped)) file after step all = is_then after (ended before) step.2 all
  reopen_on before (replies.Refused JournalFull) file after step all = is_then after (ended before) step.2 all
  reopen_on before (replies.Refused Device) file after step all = is_then after (ended before) step all
  reopen_on before replies.Stopped file after step all = absurd step
  reopen_on before (replies.Recovered summary) file after step all = absurd step
  reopen_on before replies.NoRecorder file after step all = absurd step
  reopen_on before (replies.Refused NotEmpty) file after step all = absurd step
  reopen_on before (replies.Refused (Refused refusal)) file after step all = absurd step
  reopen_on before (replies.Refused Full) file after step all = absurd step
  reopen_on before (replies.Refused Failed) file after step all = absurd step
  reopen_on before (replies.Refused Damaged) file after step all = absurd step

  holds_on : (before : History) (command : Command) (reply : Reply) (file : List ℕ) (after : History) → command ≢ commands.Erase → Step before command (outcome reply file) after → Holds before → Holds after
  holds_on before (commands.Start start) reply file after other step all = start_on before start reply file after step all
  holds_on before (commands.Entry (Sample sample)) reply file after other step all = hand_on before (Sample sample) reply file after step all
  holds_on before (commands.Entry (Lap time)) reply file after other step all = hand_on before (Lap time) reply file after step all
  holds_on before (commands.Entry (Pause time)) reply file after other step all = hand_on before (Pause time) reply file after step all
  holds_on before (commands.Entry (Resume time)) reply file after other step all = hand_on before (Resume time) reply file after step all
  holds_on before (commands.Entry (Stop time)) reply file after other step all = stop_on before time reply file after step all
  holds_on before commands.Commit reply file after other step all = commit_on before reply file after step all
  holds_on before commands.Recover reply file after other step all = recover_on before reply file after step all
  holds_on before commands.Reopen reply file after other step all = reopen_on before reply file after step all
  holds_on before commands.Erase reply file after other step all = absurd (other refl)
  holds_on before commands.Restart reply file after other step all = is_then after (ended before) step.1 all
  holds_on before commands.Power reply file after other step all = is_then after (ended before) step.1 all
  holds_on before (commands.Fail k) reply file after other step all = is_then after before step.1 all
  holds_on before (commands.Cut k) reply file after other step all = is_then after before step.1 all

  -- ---- at each moment of turns without an erasing

  pub kept_throughout : (before after : History) (old new : Story) (turns : List Turn) → ErasesNothing turns → Holds before → GoesByTurns before old turns after new
      → LeavesAllowed (ended after) new → Throughout HasFront old new
  kept_throughout before after old new [] nothing all goes rests =
      let here : LeavesOnly HasFront new.now = λ contents left. fits_front (ended after) contents (is_then after before goes.0 all) (rests contents left) in
      stays HasFront old old new (begins HasFront old (subst (λ story. LeavesOnly HasFront story.now) goes.1 here)) goes.1
  kept_throughout before after old new (Asked event reply last ∷ turns) nothing all goes rests =
      let next = goes.0 in
      let mid = goes.1 in
      let passes = goes.2 in
      then_run HasFront old mid new
      (weaker (MayLeave before event.command) HasFront (leaves_front before event.command nothing.0 all) old mid passes.any_moment)
      (kept_throughout next after mid new turns nothing.1 (holds_on before event.command reply passes.file next nothing.0 passes.step all) goes.4 rests)
  kept_throughout before after old new (Faulty number fault ∷ turns) nothing all goes rests = kept_throughout before after old new turns nothing all goes rests
