-- The journal of a ride over files that no older recorder wrote never fills: the calls of a ride keep the mark of slots that take turns.
use Rattle.std.proofs.Common.{◌≡◌, drop, inl, inr, ⊎_elim, ℕ, ◌≤◌, Bool, true, false, true≢false, List, [], ◌∷◌, None, length, get_or, Result, Ok, Err, refl, sym, ◌∙◌, ap, subst, arith}
use Rattle.std.specs.Prelude.{IsTrue, OnOk, IfErr}
use Rattle.std.proofs.lemmas.List.{get_or-drop}
use Rattle.fit_activity.specs.declared.activity.Summary.{Summary}
use Rattle.fit_activity.specs.declared.recording.start.Start.{Start}
use Rattle.fit_activity.specs.Rides.Recording.{Recorded}
use Rattle.fit_disk.specs.Calls.{IsSound}
use Rattle.fit_disk.specs.Stored.{Stored, Left}
use Rattle.fit_disk.specs.State.{Contents, BothLeft, LeavesOnly, seen_in}
use Rattle.fit_disk.specs.Story.{Story, Throughout}
use Rattle.fit_disk.proofs.Leaving.{rest_left}
use Rattle.fit_disk.proofs.Moments.{at_end}
use Rattle.fit_journal.specs.Turn.{slots_left}
use Rattle.fit_journal.specs.Moments.{KeepsHead}
use Rattle.fit_journal.proofs.Mark.{full_mark, row_or_turns}
use Rattle.fit_recorder.specs.declared.fault.RecFault.{RecFault}
use Rattle.fit_recorder.specs.declared.fault.RecFault.TheVariants.{JournalFull, Device, Failed}
use Rattle.fit_recorder.specs.declared.recorder.Recorder.{Recorder}
use Rattle.fit_recorder.specs.Files.Body.{StandsFor}
use Rattle.fit_recorder.specs.Files.Committed.{IsCommitted}
use Rattle.fit_recorder.specs.Files.NeverFull.{NeverFills}
use Rattle.fit_recorder.specs.Calls.Answers.{StartAnswers}
use Rattle.fit_recorder.specs.Calls.Erasing.{Erased, LeftOrErased}
use Rattle.fit_recorder.specs.Calls.After.{AfterCall}
use Rattle.fit_recorder.specs.Calls.Recorder.{StandsAt, WasHanded, disk_of, has_failed, journal_slots}
use Rattle.fit_recorder.specs.Calls.Recovery.{Rebuilds, unchanged, standing, InRecovery, IsRecoveryFault, KeepsJournal}
use Rattle.fit_recorder.specs.Calls.Resume.{IsResumed, IsRefusedFor, HasNoRoom}
use Rattle.fit_recorder.proofs.Commit.Head.{rest_head, stands_rest, recorder_fills}
use Rattle.fit_histories.specs.declared.reply.Reply.{Reply}
use Rattle.fit_histories.specs.declared.reply.Reply.TheVariants as replies
use Rattle.fit_histories.specs.declared.ride.Ride.{Ride}
use Rattle.fit_histories.specs.declared.ride.Ride.TheVariants as rides
use Rattle.fit_histories.specs.Histories.Table.{History, Idle, Riding}
use Rattle.fit_histories.specs.Rides.NeverFull.{NeverFull, NotFull}
use Rattle.fit_histories.specs.Rides.Replies.{reply_of, recovered_of}
use Rattle.fit_histories.specs.Rides.Ride.{disk_in}
use Rattle.fit_histories.specs.Rides.Standing.{StandsIn}

-- ---- without a recorder

no_bytes : (bytes : List ℕ) → length bytes ≤ 0 → bytes ≡ []
no_bytes [] few = refl
no_bytes (b ∷ bytes) few = absurd (omega (arith, few))

module _ (old : Story) (sound : IsSound old.now) (before : LeavesOnly NeverFills old.now) where
  module _ (new : Story) where
    module _ (journal : KeepsJournal old new) (run : InRecovery old new) where
      journal_left : (c : Contents) → BothLeft new.now c → Left old.now.journal_file c.in_journal
      journal_left c left = ⊎_elim
          (λ same. subst (λ (file : Stored). Left file c.in_journal) same left.journal_left)
          (λ rests. subst (Left old.now.journal_file) (sym (rest_left new.now.journal_file old.now.journal_file.seen c.in_journal rests left.journal_left)) sound.journal_left)
          journal

      unchanged_fills : new ≡ run.found → LeavesOnly NeverFills new.now
      unchanged_fills same c left = before c (at_end (BothLeft old.now) old run.found run.before c (subst (λ (story : Story). BothLeft story.now c) same left))

      -- if a body was committed, the data file was not empty
      committed_fills : (body : List ℕ) → IsCommitted body (seen_in old.now) → LeavesOnly NeverFills new.now
      committed_fills body commits c left =
          let long = commits.in_data.long in
          ⊎_elim
          (λ empty. absurd (omega (arith, long, ap (λ (bytes : List ℕ). length bytes) empty)))
          (λ mark. inr mark)
          (before (record { in_data = old.now.data_file.seen; in_journal = c.in_journal }) (record { data_left = sound.data_left; journal_left = journal_left c left }))

      rebuilt_fills : Rebuilds (seen_in old.now) run.found new → LeavesOnly NeverFills new.now
      rebuilt_fills (unchanged same) = unchanged_fills same
      rebuilt_fills (standing body list recording commits moments) = committed_fills body commits

      -- a recovery, and a resume
      pub recovered_fills : LeavesOnly NeverFills new.now
      recovered_fills = ⊎_elim unchanged_fills (λ settled. rebuilt_fills settled.1) run.after

    -- an erasing
    pub erased_fills : Throughout (LeftOrErased old.now) old new → LeavesOnly NeverFills new.now
    erased_fills run c left = ⊎_elim (λ could. before c could) erased (at_end (LeftOrErased old.now) old new run c left)
      where
        third : drop 1 c.in_journal ≡ drop 1 old.now.journal_file.seen → get_or c.in_journal 3 0 ≡ get_or old.now.journal_file.seen 3 0
        third same = sym (get_or-drop 1 c.in_journal 2 0) ∙ ap (λ (rest : List ℕ). get_or rest 2 0) same ∙ get_or-drop 1 old.now.journal_file.seen 2 0

        erased : Erased old.now c → NeverFills c
        erased is = ⊎_elim
            (λ empty. let none = ap (λ (bytes : List ℕ). length bytes) empty in let short = is.no_longer in inl (no_bytes c.in_data (omega (arith, short, none))))
            (λ mark. inr (⊎_elim (λ plain. inl (third is.rest ∙ plain)) (λ checked. inr (third is.rest ∙ checked)) mark))
            (before (seen_in old.now) sound)

  -- the journal of a recording is no row
  not_row : (list : List Recorded) → StandsFor list (seen_in old.now) → get_or old.now.journal_file.seen 3 0 ≡ 0x31 → ⊥
  not_row list stood row =
      let long = stood.commits.in_data.long in
      ⊎_elim
      (λ empty. omega (arith, long, ap (λ (bytes : List ℕ). length bytes) empty))
      (λ mark. ⊎_elim (λ plain. omega (arith, plain, row)) (λ checked. omega (arith, checked, row)) mark)
      (before (seen_in old.now) sound)

  not_full_row : HasNoRoom (seen_in old.now) → ⊥
  not_full_row full = not_row full.list full.stood (full_mark old.now.journal_file.seen full.full)

  -- a resume does not answer it
  pub resume_not_full : (fault : RecFault) → IsRefusedFor (seen_in old.now) fault → replies.Refused fault ≡ replies.Refused JournalFull → ⊥
  resume_not_full fault refused is = let same : fault ≡ JournalFull = cc in not_full_row (subst (IsRefusedFor (seen_in old.now)) same refused)

  pub resumed_turns : {D : Type 0} (honest : Bool) (story : D → Story) (recorder : Recorder D) → IsResumed honest story (seen_in old.now) recorder → slots_left (journal_slots recorder) ≡ None
  resumed_turns honest story recorder resumed = ⊎_elim
      (λ row. absurd (not_row resumed.list resumed.stood row))
      (λ turns. turns)
      (row_or_turns old.now.journal_file.seen (journal_slots recorder) resumed.adopted.ready)

-- ---- with a recorder

pub on_ok_of : (P : Type 0) (result : Result (Unit {0}) RecFault) → P → OnOk result P
on_ok_of P (Ok done) is = is
on_ok_of P (Err fault) is = tt

pub on_err_of : (P : Type 0) (result : Result (Unit {0}) RecFault) (fault : RecFault) → result ≡ Err fault → OnOk result P
on_err_of P (Ok done) fault is = absurd cc
on_err_of P (Err fault) other is = tt

-- a start does not answer it
pub start_not_full : (start : Start) (fault : RecFault) → StartAnswers start fault → replies.Refused fault ≡ replies.Refused JournalFull → ⊥
start_not_full start fault answers is = let same : fault ≡ JournalFull = cc in subst (StartAnswers start) same answers

-- nor does a recovery
pub recovery_not_full : (result : Result Summary RecFault) → IfErr result IsRecoveryFault → recovered_of result ≡ replies.Refused JournalFull → ⊥
recovery_not_full (Ok summary) known is = absurd cc
recovery_not_full (Err fault) known is = let same : fault ≡ JournalFull = cc in subst IsRecoveryFault same known

-- nor an erasing
pub erasing_not_full : (result : Result (Unit {0}) RecFault) → IfErr result (λ fault. fault ≡ Device) → reply_of result ≡ replies.Refused JournalFull → ⊥
erasing_not_full (Ok done) known is = absurd cc
erasing_not_full (Err fault) known is = let same : fault ≡ JournalFull = cc in let clash : JournalFull ≡ Device = sym same ∙ known in absurd cc

full_reply : (result : Result (Unit {0}) RecFault) → reply_of result ≡ replies.Refused JournalFull → result ≡ Err JournalFull
full_reply (Ok done) is = absurd cc
full_reply (Err fault) is = cc

module _ {D : Type 0} (honest : Bool) (story : D → Story) (so : IsTrue honest) where
  running_fills : (recorder : Recorder D) (before : History) → StandsIn honest story (rides.Riding recorder) before → NeverFull story (rides.Riding recorder) → LeavesOnly NeverFills (story (disk_of recorder)).now
  running_fills recorder (Idle claims begun) none never = absurd none
  running_fills recorder (Riding list promise reopened false) on never =
      recorder_fills honest story recorder list on.committed on.stands so (story (disk_of recorder)) (never.0 on.going)
      (rest_head (story (disk_of recorder)) (story (disk_of recorder)) (stands_rest honest story recorder list on.committed on.stands so) refl)
  running_fills recorder (Riding list promise reopened true) broken never = never.1 broken.0

  -- the recorder that runs ends
  pub ended_fills : (ride : Ride D) (before : History) (disk : D) → disk ≡ disk_in ride → StandsIn honest story ride before → NeverFull story ride → LeavesOnly NeverFills (story disk).now
  ended_fills (rides.Idle idle) before disk is stands never = subst (λ disk. LeavesOnly NeverFills (story disk).now) (sym is) never
  ended_fills (rides.Riding recorder) before disk is stands never = subst (λ disk. LeavesOnly NeverFills (story disk).now) (sym is) (running_fills recorder before stands never)

  module _ (old new : Recorder D) (result : Result (Unit {0}) RecFault) (after : AfterCall honest story result old new)
      (head : (list committed : List Recorded) → StandsAt honest story old list committed → KeepsHead (story (disk_of old)) (story (disk_of new)))
      (before : History) (stands : StandsIn honest story (rides.Riding old) before) (never : NeverFull story (rides.Riding old))
    where
      -- whatever a power cut leaves after a call of a recorder in which none had failed
      called_fills : (result ≡ Err Failed → ⊥) → LeavesOnly NeverFills (story (disk_of new)).now
      called_fills other = by before stands
        where
          by : (before : History) → StandsIn honest story (rides.Riding old) before → LeavesOnly NeverFills (story (disk_of new)).now
          by (Idle claims begun) none = absurd none
          by (Riding list promise reopened false) on = recorder_fills honest story old list on.committed on.stands so (story (disk_of new)) (never.0 on.going) (head list on.committed on.stands)
          by (Riding list promise reopened true) broken = absurd (other (after.failed broken.0))

      pub stopped_fills : (done : Unit {0}) → result ≡ Ok done → LeavesOnly NeverFills (story (disk_of new)).now
      stopped_fills done is = called_fills (λ failed. let clash : Ok done ≡ Err Failed = sym is ∙ failed in absurd cc)

      not_before : (r : Result (Unit {0}) RecFault) → result ≡ r → (r ≡ Err Failed → ⊥) → has_failed old ≡ false
      not_before r is other = by (has_failed old) refl
        where
          by : (b : Bool) → has_failed old ≡ b → b ≡ false
          by false none = refl
          by true broken = absurd (other (sym is ∙ after.failed broken))

      still_never_full : OnOk result (slots_left (journal_slots old) ≡ None → slots_left (journal_slots new) ≡ None) → NeverFull story (rides.Riding new)
      still_never_full turns = by result refl
        where
          by : (r : Result (Unit {0}) RecFault) → result ≡ r → NeverFull story (rides.Riding new)
          by (Ok done) is =
              let going : has_failed new ≡ false = rw is at after.going in
              (λ _. (rw is at turns) (never.0 (not_before (Ok done) is (λ failed. absurd cc))), λ broken. absurd (true≢false (sym broken ∙ going)))
          by (Err fault) is = ⊎_elim
              (λ device.
              let failed : result ≡ Err Device = is ∙ ap (λ (fault : RecFault). Err fault) device in
              let gone : has_failed new ≡ true = after.gone failed in
              (λ going. absurd (true≢false (sym gone ∙ going)), λ _. called_fills (λ other. let clash : Err Device ≡ Err Failed = sym failed ∙ other in absurd cc)))
              (λ same. subst (λ recorder. NeverFull story (rides.Riding recorder)) (sym same) never)
              (rw is at after.same)

      module _ (Known : List Recorded → Result (Unit {0}) RecFault → Type 0) (known : (list : List Recorded) → WasHanded old list → has_failed old ≡ false → Known list result)
          (none : slots_left (journal_slots old) ≡ None → (list : List Recorded) → Known list (Err JournalFull) → ⊥) where
        not_full : result ≡ Err JournalFull → ⊥
        not_full is = by before stands
          where
            by : (before : History) → StandsIn honest story (rides.Riding old) before → ⊥
            by (Idle claims begun) stands = stands
            by (Riding list promise reopened false) on = none (never.0 on.going) list (subst (Known list) is (known list on.stands.totals on.going))
            by (Riding list promise reopened true) broken = let clash : Err JournalFull ≡ Err Failed = sym is ∙ after.failed broken.0 in absurd cc

        -- after a reply, the recorder still runs
        pub rides_on : OnOk result (slots_left (journal_slots old) ≡ None → slots_left (journal_slots new) ≡ None) → (reply : Reply) → reply ≡ reply_of result → NotFull story reply (rides.Riding new)
        rides_on turns reply reply_is = record {
          not_full = λ full. not_full (full_reply result (sym reply_is ∙ full));
          never_full = still_never_full turns;
        }
