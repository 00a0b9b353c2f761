-- The calls of a recorder that runs, as steps of its ride's history.
use Rattle.std.proofs.Common.{◌≡◌, ◌≢◌, ◌⊎◌, ⊎_elim, ℕ, ◌≤◌, Bool, true, false, true≢false, List, [], ◌∷◌, ◌++◌, length, None, Result, Ok, Err, refl, sym, ◌∙◌, ap, subst, arith, append_assoc, length-append}
use Rattle.std.specs.Prelude.{OnOk, IfErr, IsErrOf}
use Rattle.std.proofs.lemmas.List.{append-nil}
use Rattle.fit_activity.specs.declared.recording.entry.Entry.{Entry}
use Rattle.fit_activity.specs.declared.recording.entry.Entry.TheVariants.{Sample, Lap, Pause, Resume, Stop}
use Rattle.fit_activity.specs.declared.recording.start.Start.{Start}
use Rattle.fit_activity.specs.Rides.Recording.{Recorded, Started, Added, is_stop}
use Rattle.fit_activity.specs.Rides.Refusal.{start_refusal}
use Rattle.fit_disk.specs.declared.disk.Which.TheVariants.{Data}
use Rattle.fit_disk.specs.Calls.{IsSound}
use Rattle.fit_disk.specs.State.{LeavesOnly, seen_in}
use Rattle.fit_disk.specs.Story.{Story, Throughout, seen_of}
use Rattle.fit_disk.proofs.Moments.{at_end}
use Rattle.fit_journal.specs.declared.slots.Slots.{Slots}
use Rattle.fit_journal.specs.declared.slots.Slots.TheVariants.{InRow, HalfOpen, InTurns, InThree}
use Rattle.fit_journal.specs.Turn.{slots_left}
use Rattle.fit_recorder.specs.declared.fault.RecFault.{RecFault}
use Rattle.fit_recorder.specs.declared.fault.RecFault.TheVariants.{NotEmpty, Refused, Full, JournalFull, Device, Failed, NothingRecorded, Damaged}
use Rattle.fit_recorder.specs.declared.recorder.Recorder.{Recorder}
use Rattle.fit_recorder.specs.Calls.Answers.{HandAnswers, CommitAnswers, IsLastSlot, StopAnswers}
use Rattle.fit_recorder.specs.Files.Body.{StandsFor}
use Rattle.fit_recorder.specs.Files.Finished.{HasAtMost, IsFinished}
use Rattle.fit_recorder.specs.Files.Limits.{most_records}
use Rattle.fit_recorder.specs.Calls.Resume.{IsResumed}
use Rattle.fit_recorder.specs.Calls.After.{CommitsAll, AddsEntry}
use Rattle.fit_recorder.specs.Calls.Recorder.{StandsAt, WasHanded, HasEnded, disk_of, has_failed, data_len, journal_slots}
use Rattle.fit_recorder.proofs.Commit.Standing.{has_stopped-push}
use Rattle.fit_histories.specs.declared.command.Command.{Command}
use Rattle.fit_histories.specs.declared.command.Command.TheVariants as commands
use Rattle.fit_histories.specs.declared.reply.Reply.{Reply}
use Rattle.fit_histories.specs.declared.reply.Reply.TheVariants as replies
use Rattle.fit_histories.specs.declared.ride.Ride.TheVariants as rides
use Rattle.fit_histories.specs.Histories.Claims.{has_none, whole}
use Rattle.fit_histories.specs.Histories.Table.{History, Idle, Riding, Outcome, Done, Fault, claims_of, ended, Step, HandStep, EntryStep}
use Rattle.fit_histories.specs.Rides.Replies.{reply_of}
use Rattle.fit_histories.specs.Rides.Standing.{outcome, LeavesAllowed, RidesOn, StandsIn, TakesStepFrom}
use Rattle.fit_histories.proofs.Histories.Claims.{keeps_front}
use Rattle.fit_histories.proofs.Histories.Idle.{GoesIdle, file_seen, finished_rests, found}

-- what a power cut leaves of a ride that is broken off: a prefix of its list
front_rests : (list committed rest : List Recorded) (promise : ℕ) (reopened failed : Bool) (story : Story) → list ≡ committed ++ rest → promise ≡ length committed
    → LeavesOnly (StandsFor committed) story.now → LeavesAllowed (Riding list promise reopened failed) story
front_rests list committed rest promise reopened failed story begins promised stands contents left =
    record { keeps = keeps_front list committed rest promise contents begins (omega (arith, promised)) (stands contents left); empty = λ unbegun. absurd (true≢false unbegun) }

-- or all of it
either_rests : (list committed rest : List Recorded) (promise : ℕ) (reopened failed : Bool) (story : Story) → list ≡ committed ++ rest → promise ≡ length committed
    → LeavesOnly (λ c. StandsFor committed c ⊎ StandsFor list c) story.now → LeavesAllowed (Riding list promise reopened failed) story
either_rests list committed rest promise reopened failed story begins promised stands contents left =
    let few : promise ≤ length list = omega (arith, promised, ap (λ (list : List Recorded). length list) begins, length-append committed rest) in
    record {
      keeps = ⊎_elim
          (λ front. keeps_front list committed rest promise contents begins (omega (arith, promised)) front)
          (λ all. keeps_front list list [] promise contents (sym (append-nil list)) few all) (stands contents left);
      empty = λ unbegun. absurd (true≢false unbegun);
    }

-- a step of an entry that is not a stop
entry_step : (before after : History) (entry : Entry) (answer : Outcome) → is_stop (Added entry) ≡ false → HandStep before entry answer after → EntryStep before entry answer after
entry_step before after (Sample s) answer other step = step
entry_step before after (Lap time) answer other step = step
entry_step before after (Pause time) answer other step = step
entry_step before after (Resume time) answer other step = step
entry_step before after (Stop time) answer other step = absurd (true≢false other)

-- slots that take turns have no last one
pub never_full : {A : Type 0} (slots : Slots) → slots_left slots ≡ None → IsLastSlot slots → A
never_full (InRow slots) turns last = absurd cc
never_full (HalfOpen slots) turns last = absurd cc
never_full (InTurns first second) turns last = absurd last
never_full (InThree first second third) turns last = absurd last

module _ {D : Type 0} (honest : Bool) (story : D → Story) where
  -- no recorder runs after the command
  pub idle_goes : (before : History) (command : Command) (reply : Reply) (disk : D) → GoesIdle (λ after. Step before command (outcome reply (seen_of Data (story disk))) after) (story disk)
      → TakesStepFrom honest story before command reply (rides.Idle disk)
  idle_goes before command reply disk goes = record { after = Idle goes.claims goes.begun; step = goes.step; stands = goes.rests }

  -- a recorder has begun
  pub started_goes : (before : History) (start : Start) (recorder : Recorder D) → has_none (claims_of before) ≡ true → start_refusal start ≡ None
      → StandsAt honest story recorder (Started start ∷ []) (Started start ∷ []) → has_failed recorder ≡ false
      → slots_left (journal_slots recorder) ≡ None → TakesStepFrom honest story before (commands.Start start) replies.Done (rides.Riding recorder)
  started_goes before start recorder none allowed stands going turns =
      record {
        after = Riding (Started start ∷ []) 1 false false;
        step = (none, allowed, refl);
        stands = record { committed = Started start ∷ []; rest = []; begins = refl; promised = refl; stands = stands; going = going; no_stop = refl; turns = λ _. turns };
      }

  -- a recorded ride continues
  pub reopened_goes : (before : History) (old : Story) → LeavesAllowed (ended before) old → IsSound old.now → (recorder : Recorder D) → IsResumed honest story (seen_in old.now) recorder
      → TakesStepFrom honest story before commands.Reopen replies.Done (rides.Riding recorder)
  reopened_goes before old rests sound recorder resumed =
      let list = resumed.list in
      record {
        after = Riding list (length list) true false;
        step = (list, found before old rests sound list false resumed.stood resumed.running, refl);
        stands = record {
          committed = list;
          rest = [];
          begins = sym (append-nil list);
          promised = refl;
          stands = resumed.stands;
          going = resumed.going;
          no_stop = resumed.running;
          turns = λ anew. absurd (true≢false anew);
        };
      }

  -- what may be left of a ride may be left of it after its end
  pub ended_fits : (before : History) (at : Story) → LeavesAllowed before at → LeavesAllowed (ended before) at
  ended_fits before at rests contents left = record { keeps = (rests contents left).keeps; empty = (rests contents left).empty }

  -- the recorder that runs ends
  pub ended_rests : (before : History) (recorder : Recorder D) → StandsIn honest story (rides.Riding recorder) before
      → ((list committed : List Recorded) → StandsAt honest story recorder list committed → LeavesOnly (StandsFor committed) (story (disk_of recorder)).now) → LeavesAllowed (ended before) (story (disk_of recorder))
  ended_rests (Idle claims begun) recorder none left = absurd none
  ended_rests (Riding list promise reopened false) recorder on left =
      ended_fits (Riding list promise reopened false) (story (disk_of recorder)) (front_rests list on.committed on.rest promise reopened false (story (disk_of recorder)) on.begins on.promised (left list on.committed on.stands))
  ended_rests (Riding list promise reopened true) recorder broken left = ended_fits (Riding list promise reopened true) (story (disk_of recorder)) broken.1

  module _ (old new : Recorder D) (result : Result (Unit {0}) RecFault) (same : IfErr result (λ fault. (fault ≡ Device) ⊎ (new ≡ old)))
      (failed : has_failed old ≡ true → IsErrOf result Failed) (gone : IsErrOf result Device → has_failed new ≡ true) where
    -- a refusal does not change the recorder
    unchanged : (fault : RecFault) → result ≡ Err fault → fault ≢ Device → new ≡ old
    unchanged fault is other = ⊎_elim (λ device. absurd (other device)) (λ kept. kept) (rw is at same)

    -- a recorder in which a call failed answers only `Failed`
    still_failed : (list : List Recorded) (promise : ℕ) (reopened : Bool) (command : Command) → StandsIn honest story (rides.Riding old) (Riding list promise reopened true)
        → ((after : History) → after ≡ Riding list promise reopened true → Step (Riding list promise reopened true) command (Fault Failed) after)
        → TakesStepFrom honest story (Riding list promise reopened true) command (reply_of result) (rides.Riding new)
    still_failed list promise reopened command broken step = by result refl
      where
        by : (r : Result (Unit {0}) RecFault) → result ≡ r → TakesStepFrom honest story (Riding list promise reopened true) command (reply_of r) (rides.Riding new)
        by (Ok done) is = let clash : Ok done ≡ Err Failed = sym is ∙ failed broken.0 in absurd cc
        by (Err fault) is =
            let same_err : Err fault ≡ Err Failed = sym is ∙ failed broken.0 in
            let outcome : fault ≡ Failed = cc in
            let kept : new ≡ old = unchanged fault is (λ device. absurd cc) in
            rw outcome record { after = Riding list promise reopened true; step = step (Riding list promise reopened true) refl; stands = subst (λ recorder. StandsIn honest story (rides.Riding recorder) (Riding list promise reopened true)) (sym kept) broken }

    -- a refusal that changes nothing
    kept_goes : (list : List Recorded) (promise : ℕ) (reopened : Bool) (command : Command) (fault : RecFault) → result ≡ Err fault → fault ≢ Device → RidesOn honest story old list promise reopened
        → Step (Riding list promise reopened false) command (Fault fault) (Riding list promise reopened false) → TakesStepFrom honest story (Riding list promise reopened false) command (replies.Refused fault) (rides.Riding new)
    kept_goes list promise reopened command fault is other on step =
        record { after = Riding list promise reopened false; step = step; stands = subst (λ recorder. RidesOn honest story recorder list promise reopened) (sym (unchanged fault is other)) on }

    -- ---- an entry that is not a stop

    module _ (entry : Entry) (other : is_stop (Added entry) ≡ false) (slots : journal_slots new ≡ journal_slots old)
        (answers : (list : List Recorded) → WasHanded old list → has_failed old ≡ false → HandAnswers list (data_len old) entry result)
        (going : OnOk result (has_failed new ≡ false)) (ok : OnOk result (AddsEntry honest story entry old new))
        (moments : (list committed : List Recorded) → StandsAt honest story old list committed → Throughout (StandsFor committed) (story (disk_of old)) (story (disk_of new))) where
      hand_refused : (list : List Recorded) (promise : ℕ) (reopened : Bool) → RidesOn honest story old list promise reopened → (fault : RecFault) → result ≡ Err fault → HandAnswers list (data_len old) entry (Err fault)
          → TakesStepFrom honest story (Riding list promise reopened false) (commands.Entry entry) (replies.Refused fault) (rides.Riding new)
      hand_refused list promise reopened on (Refused refusal) is none =
          kept_goes list promise reopened (commands.Entry entry) (Refused refusal) is (λ device. absurd cc) on (entry_step (Riding list promise reopened false) (Riding list promise reopened false) entry (Fault (Refused refusal)) other (none, refl))
      hand_refused list promise reopened on Full is full =
          kept_goes list promise reopened (commands.Entry entry) Full is (λ device. absurd cc) on (entry_step (Riding list promise reopened false) (Riding list promise reopened false) entry (Fault Full) other (full.0, refl))
      hand_refused list promise reopened on Device is none =
          record {
            after = Riding list promise reopened true;
            step = entry_step (Riding list promise reopened false) (Riding list promise reopened true) entry (Fault Device) other (none.0, refl);
            stands = (
              gone is,
              front_rests list on.committed on.rest promise reopened true (story (disk_of new)) on.begins on.promised
                  (at_end (StandsFor on.committed) (story (disk_of old)) (story (disk_of new)) (moments list on.committed on.stands)),
            );
          }
      hand_refused list promise reopened on NotEmpty is none = absurd none
      hand_refused list promise reopened on JournalFull is none = absurd none
      hand_refused list promise reopened on Failed is none = absurd none
      hand_refused list promise reopened on NothingRecorded is none = absurd none
      hand_refused list promise reopened on Damaged is none = absurd none

      hand_on : (list : List Recorded) (promise : ℕ) (reopened : Bool) → RidesOn honest story old list promise reopened → (r : Result (Unit {0}) RecFault) → result ≡ r
          → TakesStepFrom honest story (Riding list promise reopened false) (commands.Entry entry) (reply_of r) (rides.Riding new)
      hand_on list promise reopened on (Ok done) is =
          let took : AddsEntry honest story entry old new = rw is at ok in
          let now = took.stands list on.committed on.stands in
          let more : List Recorded = list ++ Added entry ∷ [] in
          record {
            after = Riding more promise reopened false;
            step = entry_step (Riding list promise reopened false) (Riding more promise reopened false) entry Done other (now.totals.allowed, refl);
            stands = record {
              committed = on.committed;
              rest = on.rest ++ Added entry ∷ [];
              begins = ap (λ (list : List Recorded). list ++ Added entry ∷ []) on.begins ∙ append_assoc on.committed on.rest (Added entry ∷ []);
              promised = on.promised;
              stands = now;
              going = rw is at going;
              no_stop = has_stopped-push list (Added entry) ∙ other;
              turns = λ anew. ap slots_left slots ∙ on.turns anew;
            };
          }
      hand_on list promise reopened on (Err fault) is = hand_refused list promise reopened on fault is (rw is at answers list on.stands.totals on.going)

      pub hand_goes : (before : History) → StandsIn honest story (rides.Riding old) before → TakesStepFrom honest story before (commands.Entry entry) (reply_of result) (rides.Riding new)
      hand_goes (Idle claims begun) none = absurd none
      hand_goes (Riding list promise reopened false) on = hand_on list promise reopened on result refl
      hand_goes (Riding list promise reopened true) broken =
          still_failed list promise reopened (commands.Entry entry) broken (λ after is. entry_step (Riding list promise reopened true) after entry (Fault Failed) other is)

    -- ---- a commit

    module _ (answers : (list : List Recorded) → WasHanded old list → has_failed old ≡ false → CommitAnswers list (journal_slots old) result)
        (turns : slots_left (journal_slots old) ≡ None → OnOk result (slots_left (journal_slots new) ≡ None))
        (going : OnOk result (has_failed new ≡ false)) (ok : OnOk result (CommitsAll honest story old new))
        (moments : (list committed : List Recorded) → StandsAt honest story old list committed → Throughout (λ c. StandsFor committed c ⊎ StandsFor list c) (story (disk_of old)) (story (disk_of new))) where
      commit_refused : (list : List Recorded) (promise : ℕ) (reopened : Bool) → RidesOn honest story old list promise reopened → (fault : RecFault) → result ≡ Err fault → CommitAnswers list (journal_slots old) (Err fault)
          → TakesStepFrom honest story (Riding list promise reopened false) commands.Commit (replies.Refused fault) (rides.Riding new)
      commit_refused list promise reopened on (Refused refusal) is stopped = absurd (true≢false (sym stopped.1 ∙ on.no_stop))
      commit_refused list promise true on JournalFull is full = kept_goes list promise true commands.Commit JournalFull is (λ device. absurd cc) on (refl, refl)
      commit_refused list promise false on JournalFull is full = never_full (journal_slots old) (on.turns refl) full.1
      commit_refused list promise reopened on Device is none =
          record {
            after = Riding list promise reopened true;
            step = refl;
            stands = (
              gone is,
              either_rests list on.committed on.rest promise reopened true (story (disk_of new)) on.begins on.promised
                  (at_end (λ c. StandsFor on.committed c ⊎ StandsFor list c) (story (disk_of old)) (story (disk_of new)) (moments list on.committed on.stands)),
            );
          }
      commit_refused list promise reopened on Full is none = absurd none
      commit_refused list promise reopened on NotEmpty is none = absurd none
      commit_refused list promise reopened on Failed is none = absurd none
      commit_refused list promise reopened on NothingRecorded is none = absurd none
      commit_refused list promise reopened on Damaged is none = absurd none

      commit_on : (list : List Recorded) (promise : ℕ) (reopened : Bool) → RidesOn honest story old list promise reopened → (r : Result (Unit {0}) RecFault) → result ≡ r
          → TakesStepFrom honest story (Riding list promise reopened false) commands.Commit (reply_of r) (rides.Riding new)
      commit_on list promise reopened on (Ok done) is =
          let all : CommitsAll honest story old new = rw is at ok in
          record {
            after = Riding list (length list) reopened false;
            step = refl;
            stands = record { committed = list; rest = []; begins = sym (append-nil list); promised = refl; stands = all.stands list on.committed on.stands; going = rw is at going; no_stop = on.no_stop; turns = λ anew. rw is at turns (on.turns anew) };
          }
      commit_on list promise reopened on (Err fault) is = commit_refused list promise reopened on fault is (rw is at answers list on.stands.totals on.going)

      pub commit_goes : (before : History) → StandsIn honest story (rides.Riding old) before → TakesStepFrom honest story before commands.Commit (reply_of result) (rides.Riding new)
      commit_goes (Idle claims begun) none = absurd none
      commit_goes (Riding list promise reopened false) on = commit_on list promise reopened on result refl
      commit_goes (Riding list promise reopened true) broken = still_failed list promise reopened commands.Commit broken (λ after is. is)

    -- ---- a stop

    module _ (time : ℕ) (answers : (list : List Recorded) → WasHanded old list → has_failed old ≡ false → StopAnswers list time result)
        (ok : (list : List Recorded) → WasHanded old list → OnOk result ((has_failed new ≡ false) × HasEnded new (list ++ Added (Stop time) ∷ [])))
        (finished : (list committed : List Recorded) → StandsAt honest story old list committed → OnOk result (IsFinished (list ++ Added (Stop time) ∷ []) (story (disk_of new))))
        (moments : (list committed : List Recorded) → StandsAt honest story old list committed
        → Throughout (λ c. StandsFor committed c ⊎ StandsFor (list ++ Added (Stop time) ∷ []) c) (story (disk_of old)) (story (disk_of new))) where
      stop_refused : (list : List Recorded) (promise : ℕ) (reopened : Bool) → RidesOn honest story old list promise reopened → (fault : RecFault) → result ≡ Err fault → StopAnswers list time (Err fault)
          → TakesStepFrom honest story (Riding list promise reopened false) (commands.Entry (Stop time)) (replies.Refused fault) (rides.Riding new)
      stop_refused list promise reopened on (Refused refusal) is none = kept_goes list promise reopened (commands.Entry (Stop time)) (Refused refusal) is (λ device. absurd cc) on (none, refl)
      stop_refused list promise reopened on Device is none =
          let more : List Recorded = list ++ Added (Stop time) ∷ [] in
          record {
            after = Riding more promise reopened true;
            step = (none, refl);
            stands = (
              gone is,
              either_rests more on.committed (on.rest ++ Added (Stop time) ∷ []) promise reopened true (story (disk_of new))
                  (ap (λ (list : List Recorded). list ++ Added (Stop time) ∷ []) on.begins ∙ append_assoc on.committed on.rest (Added (Stop time) ∷ [])) on.promised
                  (at_end (λ c. StandsFor on.committed c ⊎ StandsFor more c) (story (disk_of old)) (story (disk_of new)) (moments list on.committed on.stands)),
            );
          }
      stop_refused list promise reopened on Full is none = absurd none
      stop_refused list promise reopened on JournalFull is none = absurd none
      stop_refused list promise reopened on NotEmpty is none = absurd none
      stop_refused list promise reopened on Failed is none = absurd none
      stop_refused list promise reopened on NothingRecorded is none = absurd none
      stop_refused list promise reopened on Damaged is none = absurd none

      -- the recorder still runs if the stop was not done
      pub stop_goes : (before : History) (fault : RecFault) → result ≡ Err fault → StandsIn honest story (rides.Riding old) before
          → TakesStepFrom honest story before (commands.Entry (Stop time)) (replies.Refused fault) (rides.Riding new)
      stop_goes (Idle claims begun) fault is none = absurd none
      stop_goes (Riding list promise reopened false) fault is on = stop_refused list promise reopened on fault is (rw is at answers list on.stands.totals on.going)
      stop_goes (Riding list promise reopened true) fault is broken =
          rw is at still_failed list promise reopened (commands.Entry (Stop time)) broken (λ after same. same)

      -- and none runs if it was done
      pub stop_done : ((list committed : List Recorded) → StandsAt honest story old list committed → OnOk result (HasAtMost most_records (story (disk_of new)))) → (before : History) (disk : D) (done : Unit {0}) → result ≡ Ok done → disk ≡ disk_of new → StandsIn honest story (rides.Riding old) before
          → TakesStepFrom honest story before (commands.Entry (Stop time)) replies.Stopped (rides.Idle disk)
      stop_done within (Idle claims begun) disk done is same none = absurd none
      stop_done within (Riding list promise reopened true) disk done is same broken = let clash : Ok done ≡ Err Failed = sym is ∙ failed broken.0 in absurd cc
      stop_done within (Riding list promise reopened false) disk done is same on =
          let more : List Recorded = list ++ Added (Stop time) ∷ [] in
          let file : IsFinished more (story disk) = subst (λ disk. IsFinished more (story disk)) (sym same) (rw is at finished list on.committed on.stands) in
          let few : HasAtMost most_records (story disk) = subst (λ disk. HasAtMost most_records (story disk)) (sym same) (rw is at within list on.committed on.stands) in
          let ended = rw is at ok list on.stands.totals in
          record {
            after = Idle (whole more ∷ []) true;
            step = (ended.1.0.allowed, file_seen more (story disk) file, few, refl);
            stands = finished_rests more (story disk) true (λ unbegun. true≢false unbegun) file;
          }
