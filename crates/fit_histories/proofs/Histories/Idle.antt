-- The calls that a ride makes while no recorder runs, as steps of its history.
use Rattle.std.proofs.Common.{◌≡◌, ◌⊎◌, inl, inr, ⊎_elim, ℕ, Bool, true, false, true≢false, List, [], ◌∷◌, ◌++◌, Result, Ok, Err, refl, sym, ◌∙◌, ap, subst}
use Rattle.std.specs.Prelude.{OnOk, IfErr}
use Rattle.fit_grammar.specs.Format.File.{File}
use Rattle.fit_activity.specs.declared.activity.Summary.{Summary}
use Rattle.fit_activity.specs.declared.recording.refusal.Refusal.{Refusal}
use Rattle.fit_activity.specs.declared.recording.start.Start.{Start}
use Rattle.fit_activity.specs.Rides.Recording.{Recorded, Started}
use Rattle.fit_activity.specs.Rides.Refusal.{has_stopped}
use Rattle.fit_activity.specs.Messages.RideMessages.{spoken, closing}
use Rattle.fit_disk.specs.declared.disk.Which.TheVariants.{Data}
use Rattle.fit_disk.specs.Calls.{IsSound}
use Rattle.fit_disk.specs.Stored.{at_rest}
use Rattle.fit_disk.specs.State.{Contents, BothLeft, LeavesOnly, seen_in}
use Rattle.fit_disk.specs.Story.{Story, Throughout, seen_of}
use Rattle.fit_disk.proofs.Leaving.{rest_left}
use Rattle.fit_disk.proofs.Moments.{weaker, stays, then_run, at_end}
use Rattle.fit_recorder.specs.declared.fault.RecFault.{RecFault}
use Rattle.fit_recorder.specs.declared.fault.RecFault.TheVariants.{NotEmpty, Refused, Full, JournalFull, Device, Failed, NothingRecorded, Damaged}
use Rattle.fit_recorder.specs.Calls.Answers.{StartAnswers}
use Rattle.fit_recorder.specs.Files.NothingRecorded.{IsNothing}
use Rattle.fit_recorder.specs.Files.Body.{StandsFor}
use Rattle.fit_recorder.specs.Calls.Erasing.{LeftOrErased, IsEmpty}
use Rattle.fit_recorder.specs.Files.Finished.{IsFinished}
use Rattle.fit_recorder.specs.Calls.Recovery.{RecoveryAnswers, KeepsStanding, Rebuilds, unchanged, standing, InRecovery}
use Rattle.fit_recorder.specs.Calls.Resume.{IsRefusedFor}
use Rattle.fit_recorder.specs.Files.Settled.{IsSettled}
use Rattle.fit_recorder.specs.Calls.Start.{InStart}
use Rattle.fit_recorder.proofs.FinishedFile.Stands.{recording_stands}
use Rattle.fit_recorder.proofs.RecoveredList.OneList.{not_nothing}
use Rattle.fit_histories.specs.Histories.Claims.{Claim, no_claim, whole, has_none, with_start}
use Rattle.fit_histories.specs.Histories.Table.{History, Idle, claims_of, was_begun, ended, IsFileOf, Fault, Finds, StartStep, RecoverStep, ReopenStep, EraseStep}
use Rattle.fit_histories.specs.Rides.Replies.{reply_of, recovered_of}
use Rattle.fit_histories.specs.Rides.Standing.{outcome, Fits, LeavesAllowed}
use Rattle.fit_histories.proofs.Histories.Claims.{same_contents, nothing_there, list_there, not_damaged, some_list, keeps_list, keeps_whole, keeps_none, keeps_more, keeps_before, keeps_started}

-- `Next` holds of a state in which no recorder runs, and a power cut leaves only what that state allows
pub record GoesIdle (Next : History → Type 0) (story : Story) : Type 0 where
  pub claims : List Claim
  pub begun : Bool
  pub step : Next (Idle claims begun)
  pub rests : LeavesAllowed (Idle claims begun) story

-- a finished file is a file of its list
pub file_seen : (list : List Recorded) (story : Story) → IsFinished list story → IsFileOf (seen_of Data story) list
file_seen list story file = subst (λ bytes. File bytes (spoken list ++ closing list)) (sym (ap (λ file. file.seen) file.rests)) file.valid

-- and its whole list is recorded
pub finished_rests : (list : List Recorded) (story : Story) (begun : Bool) → (begun ≡ false → ⊥) → IsFinished list story → LeavesAllowed (Idle (whole list ∷ []) begun) story
finished_rests list story begun is file contents left = record { keeps = keeps_whole list contents (file.stands contents left); empty = λ unbegun. absurd (is unbegun) }

module _ (before : History) (old : Story) (rests : LeavesAllowed (ended before) old) (sound : IsSound old.now) where
  -- what reads give is as the history allows
  seen_fits : Fits (ended before) (seen_in old.now)
  seen_fits = rests (seen_in old.now) sound

  pub empty_there : seen_of Data old ≡ [] → has_none (claims_of before) ≡ true
  empty_there empty = nothing_there (claims_of before) (seen_in old.now) seen_fits.keeps (inl empty)

  -- if the files stand for a list, a start was begun
  begun_by : (list : List Recorded) → StandsFor list (seen_in old.now) → was_begun before ≡ false → ⊥
  begun_by list stands unbegun = not_nothing list (seen_in old.now) stands (inl (seen_fits.empty unbegun))

  -- a list that the files stand for is found
  pub found : (list : List Recorded) (stopped : Bool) → StandsFor list (seen_in old.now) → has_stopped list ≡ stopped → Finds before list stopped
  found list stopped stands stops = record {
    may_be = list_there (claims_of before) (seen_in old.now) list seen_fits.keeps stands;
    some = some_list list (seen_in old.now) stands;
    stops = stops;
  }

  begun_there : (seen_of Data old ≡ [] → ⊥) → was_begun before ≡ true
  begun_there some = by (was_begun before) refl
    where
      by : (b : Bool) → was_begun before ≡ b → b ≡ true
      by true is = refl
      by false is = absurd (some (seen_fits.empty is))

  -- only what could be left before is left
  same_rests : (new : Story) → LeavesOnly (BothLeft old.now) new.now → LeavesAllowed (ended before) new
  same_rests new same contents left = rests contents (same contents left)

  -- ---- a start that is refused or broken off

  module _ (start : Start) (new : Story) (run : InStart start old new) where
    abbrev StartLeaves : Contents → Type 0
    StartLeaves = Fits (Idle (with_start start (claims_of before)) true)

    -- at each moment what could be left before, or nothing recorded, or the start alone
    pub start_moments : Throughout StartLeaves old new
    start_moments =
        let first = weaker (BothLeft old.now) StartLeaves
        (λ contents left. record { keeps = keeps_before start (claims_of before) contents (rests contents left).keeps; empty = λ unbegun. absurd (true≢false unbegun) })
        old run.found run.before in
        ⊎_elim
        (λ same. stays StartLeaves old run.found new first same)
        (λ second. then_run StartLeaves old run.found new first (weaker (λ contents. IsNothing contents ⊎ StandsFor (Started start ∷ []) contents) StartLeaves
        (λ contents either. record { keeps = keeps_started start (claims_of before) contents (empty_there second.0) either; empty = λ unbegun. absurd (true≢false unbegun) })
        run.found new second.1)) run.after

    not_started : (seen_of Data old ≡ [] → ⊥) → LeavesAllowed (ended before) new
    not_started some = ⊎_elim
        (λ same. same_rests new (λ contents left. at_end (BothLeft old.now) old run.found run.before contents (subst (λ story. BothLeft story.now contents) same left)))
        (λ second. absurd (some second.0)) run.after

    pub start_goes : (fault : RecFault) → StartAnswers start fault → ((refusal : Refusal) → fault ≡ Refused refusal → new ≡ old) → (fault ≡ NotEmpty → seen_of Data old ≡ [] → ⊥)
        → GoesIdle (StartStep before start (Fault fault)) new
    start_goes (Refused refusal) is same some = record { claims = claims_of before; begun = was_begun before; step = (is, refl); rests = subst (LeavesAllowed (ended before)) (sym (same refusal refl)) rests }
    start_goes NotEmpty is same some = record { claims = claims_of before; begun = was_begun before; step = (is, begun_there (some refl), refl); rests = not_started (some refl) }
    start_goes Device is same some = record { claims = with_start start (claims_of before); begun = true; step = (is, refl); rests = at_end StartLeaves old new start_moments }
    start_goes Full none same some = absurd none
    start_goes JournalFull none same some = absurd none
    start_goes Failed none same some = absurd none
    start_goes NothingRecorded none same some = absurd none
    start_goes Damaged none same some = absurd none

  -- ---- a recovery

  module _ (new : Story) where
    -- if the files are kept, what is left of them is what reads gave
    left_seen : (contents : Contents) → IsSettled (seen_in old.now) new → BothLeft new.now contents → contents ≡ seen_in old.now
    left_seen contents settled left =
        same_contents contents (seen_in old.now) (rest_left new.now.data_file _ contents.in_data settled.data_rests left.data_left)
        (rest_left new.now.journal_file _ contents.in_journal settled.journal_rests left.journal_left)

    nothing_rests : IsNothing (seen_in old.now) → IsSettled (seen_in old.now) new → LeavesAllowed (Idle (no_claim ∷ []) (was_begun before)) new
    nothing_rests nothing settled contents left =
        let same = left_seen contents settled left in
        record {
          keeps = keeps_none [] contents (subst IsNothing (sym same) nothing);
          empty = λ unbegun. ap (λ (contents : Contents). contents.in_data) same ∙ seen_fits.empty unbegun;
        }

    rebuilt : (found : Story) → Throughout (Fits (ended before)) old found → Rebuilds (seen_in old.now) found new → Throughout (Fits (ended before)) old new
    rebuilt found first (unchanged same) = stays (Fits (ended before)) old found new first same
    rebuilt found first (standing body list recording commits run) =
        let stood = recording_stands body list recording (seen_in old.now) commits in
        then_run (Fits (ended before)) old found new first (weaker (KeepsStanding body list) (Fits (ended before))
        (λ contents keeps. record {
          keeps = keeps_list (claims_of before) contents list (list_there (claims_of before) (seen_in old.now) list seen_fits.keeps stood) keeps.1;
          empty = λ unbegun. absurd (begun_by list stood unbegun);
        }) found new run)

    -- at each moment of a recovery the files are as the history allows
    pub recovery_moments : InRecovery old new → Throughout (Fits (ended before)) old new
    recovery_moments run =
        let first = weaker (BothLeft old.now) (Fits (ended before)) rests old run.found run.before in
        ⊎_elim (λ same. stays (Fits (ended before)) old run.found new first same) (λ after. rebuilt run.found first after.1) run.after

    settled_rests : IsSettled (seen_in old.now) new → LeavesAllowed (ended before) new
    settled_rests settled contents left = subst (Fits (ended before)) (sym (left_seen contents settled left)) seen_fits

    pub recover_goes : (file : List ℕ) (result : Result Summary RecFault) → file ≡ seen_of Data new → RecoveryAnswers (seen_in old.now) new result → InRecovery old new
        → IfErr result (λ fault. (fault ≡ Device) ⊎ IsSettled (seen_in old.now) new)
        → GoesIdle (λ after. RecoverStep before (outcome (recovered_of result) file) after) new
    recover_goes file (Ok summary) is answers run settled =
        let list = answers.list in
        record {
          claims = whole list ∷ [];
          begun = was_begun before;
          step = record {
            list = list;
            may_be = list_there (claims_of before) (seen_in old.now) list seen_fits.keeps answers.stood;
            some = some_list list (seen_in old.now) answers.stood;
            is_file = subst (λ bytes. IsFileOf bytes list) (sym is) (file_seen list new answers.finished);
            sums_up = answers.sums_up;
            after_is = refl;
          };
          rests = finished_rests list new (was_begun before) (begun_by list answers.stood) answers.finished;
        }
    recover_goes file (Err NothingRecorded) is nothing run settled =
        record {
          claims = no_claim ∷ [];
          begun = was_begun before;
          step = (nothing_there (claims_of before) (seen_in old.now) seen_fits.keeps nothing, refl);
          rests = nothing_rests nothing (⊎_elim (λ device. absurd cc) (λ kept. kept) settled);
        }
    recover_goes file (Err Device) is answers run settled =
        record { claims = claims_of before; begun = was_begun before; step = refl; rests = at_end (Fits (ended before)) old new (recovery_moments run) }
    recover_goes file (Err Damaged) is damaged run settled = absurd (not_damaged (claims_of before) (seen_in old.now) seen_fits.keeps damaged)
    recover_goes file (Err NotEmpty) is none run settled = absurd none
    recover_goes file (Err (Refused refusal)) is none run settled = absurd none
    recover_goes file (Err Full) is none run settled = absurd none
    recover_goes file (Err JournalFull) is none run settled = absurd none
    recover_goes file (Err Failed) is none run settled = absurd none

    -- ---- a reopening that is refused or broken off

    -- what stays after a fault other than `Device`
    kept_rests : (fault : RecFault) → (fault ≡ Device → ⊥) → (fault ≡ Device) ⊎ IsSettled (seen_in old.now) new → LeavesAllowed (ended before) new
    kept_rests fault other settled = settled_rests (⊎_elim (λ device. absurd (other device)) (λ kept. kept) settled)

    pub reopen_goes : (fault : RecFault) → IsRefusedFor (seen_in old.now) fault → InRecovery old new
        → (fault ≡ Device) ⊎ IsSettled (seen_in old.now) new → GoesIdle (ReopenStep before (Fault fault)) new
    reopen_goes NothingRecorded nothing run settled =
        record {
          claims = no_claim ∷ [];
          begun = was_begun before;
          step = (nothing_there (claims_of before) (seen_in old.now) seen_fits.keeps nothing, refl);
          rests = nothing_rests nothing (⊎_elim (λ device. absurd cc) (λ kept. kept) settled);
        }
    reopen_goes (Refused refusal) answers run settled =
        let stopped = answers.1 in
        rw answers.0 record {
          claims = claims_of before;
          begun = was_begun before;
          step = (stopped.list, found stopped.list true stopped.stood stopped.stopped, refl);
          rests = kept_rests (Refused refusal) (λ device. absurd cc) settled;
        }
    reopen_goes JournalFull full run settled =
        record {
          claims = claims_of before;
          begun = was_begun before;
          step = (full.list, found full.list false full.stood full.running, refl);
          rests = kept_rests JournalFull (λ device. absurd cc) settled;
        }
    reopen_goes Device answers run settled =
        record { claims = claims_of before; begun = was_begun before; step = refl; rests = at_end (Fits (ended before)) old new (recovery_moments run) }
    reopen_goes Damaged damaged run settled = absurd (not_damaged (claims_of before) (seen_in old.now) seen_fits.keeps damaged)
    reopen_goes NotEmpty none run settled = absurd none
    reopen_goes Full none run settled = absurd none
    reopen_goes Failed none run settled = absurd none

    -- ---- an erasing

    erase_done : new.now.data_file ≡ at_rest [] → LeavesAllowed (Idle (no_claim ∷ []) false) new
    erase_done empty contents left =
        let none = rest_left new.now.data_file [] contents.in_data empty left.data_left in
        record { keeps = keeps_none [] contents (inl none); empty = λ _. none }

    abbrev ErasingLeaves : Contents → Type 0
    ErasingLeaves = Fits (Idle (no_claim ∷ claims_of before) (was_begun before))

    -- at each moment of an erasing what could be left before, or nothing recorded
    pub erase_moments : Throughout (LeftOrErased old.now) old new → (LeavesOnly IsEmpty old.now → Throughout IsEmpty old new) → Throughout ErasingLeaves old new
    erase_moments run stays_empty = by (was_begun before) refl
      where
        by : (b : Bool) → was_begun before ≡ b → Throughout ErasingLeaves old new
        by true is = weaker (LeftOrErased old.now) ErasingLeaves (λ contents either. record {
          keeps = ⊎_elim (λ could. keeps_more no_claim (claims_of before) contents (rests contents could).keeps) (λ erased. keeps_none (claims_of before) contents (inr erased.nothing)) either;
          empty = λ unbegun. absurd (true≢false (sym is ∙ unbegun));
        }) old new run
        by false is = weaker IsEmpty ErasingLeaves (λ contents none. record { keeps = keeps_none (claims_of before) contents (inl none); empty = λ _. none }) old new
            (stays_empty (λ contents could. (rests contents could).empty is))

    pub erase_goes : (file : List ℕ) (result : Result (Unit {0}) RecFault) → OnOk result (new.now.data_file ≡ at_rest []) → IfErr result (λ fault. fault ≡ Device) → Throughout (LeftOrErased old.now) old new
        → (LeavesOnly IsEmpty old.now → Throughout IsEmpty old new) → GoesIdle (λ after. EraseStep before (outcome (reply_of result) file) after) new
    erase_goes file (Ok done) empty device run stays_empty = record { claims = no_claim ∷ []; begun = false; step = refl; rests = erase_done empty }
    erase_goes file (Err fault) empty device run stays_empty =
        rw device record { claims = no_claim ∷ claims_of before; begun = was_begun before; step = refl; rests = at_end ErasingLeaves old new (erase_moments run stays_empty) }
