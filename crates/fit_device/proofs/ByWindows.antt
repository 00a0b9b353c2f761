-- A step of a recovery by windows: which files it leaves.
use Rattle.std.proofs.Common.{⊎_elim, ◌≡◌, ◌≤◌, ◌+◌, ◌-◌, min, ℕ, List, [], length, take, Option, inl, inr, refl, sym, ap, ◌∙◌, subst, arith, Result, Ok, Err}
use Rattle.fit_activity.specs.declared.activity.Summary.{Summary}
use Rattle.fit_device.specs.Answer.{code_of_fault, wants, IsNumberOf}
use Rattle.fit_device.specs.Planned.{Leads}
use Rattle.fit_device.proofs.Leading.{leads_for, leads_since}
use Rattle.fit_device.specs.Handle.{handle_story as story_in_handle}
use Rattle.fit_device.specs.Recovering.{GoesOnWith}
use Rattle.fit_device.specs.Windowed.{recovery_story, IsRecovery, IsShort, IsTakenUp, TakesJournalWindow, TakesWindow, ReopensOn}
use Rattle.fit_device.specs.declared.files.Files.{Files}
use Rattle.fit_device.specs.declared.handle.Handle.{Handle}
use Rattle.fit_device.specs.declared.plan.DevicePlan.{DevicePlan}
use Rattle.fit_device.specs.declared.windowed.RecoveryHandle.{RecoveryHandle}
use Rattle.fit_device.proofs.Stepping.{not_device, on_ok}
use Rattle.fit_disk.specs.Counts.{Counts, Room, no_calls}
use Rattle.fit_disk.specs.State.{Contents, seen_in}
use Rattle.fit_disk.specs.Story.{Story, seen_of}
use Rattle.fit_disk.specs.declared.disk.Which.TheVariants.{Data, Journal}
use Rattle.fit_disk.specs.Numbers.{numbers_of}
use Rattle.fit_plan.specs.declared.plan.Plan.{Plan}
use Rattle.fit_plan.specs.Plan.{plan_story, plan_since, plan_counts, room_in, whole_room, plan_log, most_planned_calls, most_planned_bytes}
use Rattle.fit_recorder.specs.Calls.Windows.{AreAt, HasMoved, HasRoomForCalls, place_of}
use Rattle.fit_recorder.specs.declared.recovery.windows.Recovery.{Recovery}
use Rattle.fit_plan.specs.Carried.{which_of}
use Rattle.std.proofs.lemmas.Bool.{cases_lt}
use Rattle.std.proofs.lemmas.List.{take-take, take_all}
use Rattle.fit_recorder.specs.Calls.FaultCode.{fault_code}
use Rattle.fit_recorder.specs.Files.NothingRecorded.{IsNothing}
use Rattle.fit_recorder.specs.Private.Length.{CommitsLength}
use Rattle.fit_recorder.specs.Files.Committed.{HasCounted}
use Rattle.fit_recorder.specs.Calls.Recovery.{RecoveryAnswers, Rebuilds, unchanged, standing}
use Rattle.fit_recorder.specs.Calls.Resume.{IsRefusedFor}
use Rattle.fit_recorder.specs.Calls.Ride.{TakesUp}
use Rattle.fit_recorder.specs.declared.resuming.FoundRide.{FoundRide}
use Rattle.fit_recorder.specs.declared.fault.RecFault.{RecFault}
use Rattle.fit_recorder.specs.declared.fault.RecFault.TheVariants.{NotEmpty, Refused, Full, JournalFull, Device, Failed, NothingRecorded, Damaged}

-- the planned calls lead from the files before to those after
pub led : (old new : RecoveryHandle) (plan : DevicePlan) (before after : Plan) → plan_since before ≡ recovery_story old
    → numbers_of (plan_since after) ≡ numbers_of (plan_since before) → recovery_story new ≡ plan_story after
    → Leads plan (plan_since after) (plan_story after) → Leads plan (recovery_story old) (recovery_story new)
led old new plan before after since same story planned = leads_since plan before after _ _ _ since same (sym story) planned

pub answers_for : (answer : Result Summary RecFault) (before after earlier later : Story) → before ≡ earlier → after ≡ later
    → RecoveryAnswers (seen_in before.now) after answer → RecoveryAnswers (seen_in earlier.now) later answer
answers_for answer before after earlier later olds news is =
    subst (λ (story : Story). RecoveryAnswers (seen_in earlier.now) story answer) news (subst (λ (story : Story). RecoveryAnswers (seen_in story.now) after answer) olds is)

pub rebuilds_for : (before after earlier later : Story) → before ≡ earlier → after ≡ later → Rebuilds (seen_in before.now) before after
    → Rebuilds (seen_in earlier.now) earlier later
rebuilds_for before after earlier later olds news is =
    subst (λ (story : Story). Rebuilds (seen_in earlier.now) earlier story) news (subst (λ (story : Story). Rebuilds (seen_in story.now) story after) olds is)

-- the same of a refusal
pub refused_for : (fault : RecFault) (before earlier : Story) → before ≡ earlier → IsRefusedFor (seen_in before.now) fault
    → IsRefusedFor (seen_in earlier.now) fault
refused_for fault before earlier same is = subst (λ (story : Story). IsRefusedFor (seen_in story.now) fault) same is

pub taken_for : (ride : FoundRide) (before earlier after : Story) → before ≡ earlier → TakesUp (seen_in before.now) after (Ok ride)
    → TakesUp (seen_in earlier.now) after (Ok ride)
taken_for ride before earlier after same is = subst (λ (story : Story). TakesUp (seen_in story.now) after (Ok ride)) same is

-- a recovery that finds nothing refuses as a resume does
pub as_a_resume : (contents : Contents) (story : Story) (fault : RecFault) → RecoveryAnswers contents story (Err fault) → IsRefusedFor contents fault
as_a_resume contents story NothingRecorded is = is
as_a_resume contents story Damaged is = is
as_a_resume contents story Device is = tt
as_a_resume contents story NotEmpty is = absurd is
as_a_resume contents story (Refused refusal) is = absurd is
as_a_resume contents story Full is = absurd is
as_a_resume contents story JournalFull is = absurd is
as_a_resume contents story Failed is = absurd is

-- no fault has the number of an Ok
pub never_zero : (fault : RecFault) (code : ℕ) → code ≡ code_of_fault fault → code ≡ 0 → ⊥
never_zero fault code is zero = on_ok {P = ⊥} (Err fault) code is zero tt

-- only one has the number of a call that failed
pub is_device : (fault : RecFault) (code : ℕ) → code ≡ code_of_fault fault → fault ≡ Device → code ≡ fault_code Device
is_device fault code is device = is ∙ ap code_of_fault device

-- a plan without calls has room
pub has_room : (calls bytes : ℕ) (files : Plan) → plan_counts files ≡ no_calls → room_in files ≡ whole_room → calls ≤ most_planned_calls → bytes ≤ most_planned_bytes
    → HasRoomForCalls calls bytes (plan_log files)
has_room calls bytes files none room few short =
    let made : (plan_counts files).calls ≡ 0 = ap (λ (counts : Counts). counts.calls) none in
    let for_calls : (room_in files).calls ≡ most_planned_calls = ap (λ (room : Room). room.calls) room in
    let for_bytes : (room_in files).bytes ≡ most_planned_bytes = ap (λ (room : Room). room.bytes) room in
    record {
      counted = omega (arith, made, few);
      for_calls = omega (arith, for_calls, few);
      for_bytes = omega (arith, for_bytes, short);
    }

pub counted_for : (before after earlier later : Story) → before ≡ earlier → after ≡ later → HasCounted (seen_of Journal before) (seen_of Data after)
    → HasCounted (seen_of Journal earlier) (seen_of Data later)
counted_for before after earlier later olds news is =
    subst (λ (story : Story). HasCounted (seen_of Journal earlier) (seen_of Data story)) news (subst (λ (story : Story). HasCounted (seen_of Journal story) (seen_of Data after)) olds is)

-- no fault has the number of a wish for a window
pub never_wants : (fault : RecFault) (code : ℕ) → code ≡ code_of_fault fault → code ≡ wants → ⊥
never_wants NotEmpty code is asked = omega (arith, is, asked)
never_wants (Refused refusal) code is asked = omega (arith, is, asked)
never_wants Full code is asked = omega (arith, is, asked)
never_wants JournalFull code is asked = omega (arith, is, asked)
never_wants Device code is asked = omega (arith, is, asked)
never_wants Failed code is asked = omega (arith, is, asked)
never_wants NothingRecorded code is asked = omega (arith, is, asked)
never_wants Damaged code is asked = omega (arith, is, asked)

-- ---- the numbers of faults, where an erasing may have been cut off

module _ (contents : Contents) (fault : RecFault) (code : ℕ) where
  pub number_not_zero : IsNumberOf contents fault code → code ≡ 0 → ⊥
  number_not_zero is zero = ⊎_elim (λ erased. let no : ⊥ = omega (arith, erased.0, zero) in no) (λ usual. never_zero fault code usual.0 zero) is

  pub number_not_wants : IsNumberOf contents fault code → code ≡ wants → ⊥
  number_not_wants is asked = ⊎_elim (λ erased. let no : ⊥ = omega (arith, erased.0, asked) in no) (λ usual. never_wants fault code usual.0 asked) is

  pub number_not_device : IsNumberOf contents fault code → (fault ≡ Device → ⊥) → code ≡ fault_code Device → ⊥
  number_not_device is never device = ⊎_elim (λ erased. let no : ⊥ = omega (arith, erased.0, device) in no) (λ usual. not_device fault code usual.0 never device) is

  nothing_commits : (len : ℕ) (checksum : Option ℕ) → CommitsLength contents len checksum → IsNothing contents → ⊥
  nothing_commits len checksum commits nothing = ⊎_elim
      (λ (empty : contents.in_data ≡ []). let no : ⊥ = omega (arith, commits.long, ap (λ (xs : List ℕ). length xs) empty) in no)
      (λ none. let e = sym commits.counts ∙ none in absurd cc) nothing

  -- where a length counts, nothing was erased
  pub usual_number : (len : ℕ) (checksum : Option ℕ) → CommitsLength contents len checksum → (fault ≡ NothingRecorded → IsNothing contents)
      → code ≡ code_of_fault fault → IsNumberOf contents fault code
  usual_number len checksum commits nothing is = inr (is, λ none erased. nothing_commits len checksum commits (nothing none))

-- the number of a window that is too short
pub short_number : (contents : Contents) (code : ℕ) → code ≡ fault_code Device → IsNumberOf contents Device code
short_number contents code is = inr (is, λ (other : Device ≡ NothingRecorded) erased. absurd cc)

-- after the window of the journal
module _ (old new : RecoveryHandle) (plan : DevicePlan) (code : ℕ) (asks : IsRecovery old) (finds : old.phase ≡ 1) (full : IsShort old → ⊥) (found : TakesJournalWindow old new plan code) where
  not_zero : code ≡ 0 → ⊥
  not_zero zero = ⊎_elim (λ wants. let no : ⊥ = omega (arith, wants, zero) in no) (λ answered. number_not_zero _ answered.0 code answered.1 zero) found.answers

  pub goes_on : TakesWindow old new plan code
  goes_on = record {
    planned = found.planned;
    none = λ no. absurd (no asks);
    asks = λ _ wants. record { body = found.asks wants; moves = λ reads. absurd (reads finds) };
    ended = found.ended;
    same = λ _. found.same;
    answers = λ _. ⊎_elim (λ wants. inl wants) (λ answered. inr (Err answered.0, answered.1, answered.2)) found.answers;
    device = λ device. inr (found.device device);
    short = λ _ short. absurd (full short);
    checked = λ zero. absurd (not_zero zero);
    any_moment = λ _. unchanged found.same;
  }

  pub reopens_on : (handle : Handle) → ReopensOn old new handle handle plan code
  reopens_on handle = record {
    planned = (λ zero. absurd (not_zero zero), λ _. found.planned);
    none = λ no. absurd (no asks);
    asks = λ _ wants. record { body = found.asks wants; moves = λ reads. absurd (reads finds) };
    ended = found.ended;
    same = λ _. (refl, found.same);
    answers = λ _. ⊎_elim (λ wants. inl wants) (λ answered. inr (inr (answered.0, answered.1, as_a_resume (seen_in (recovery_story old).now) (recovery_story new) answered.0 answered.2))) found.answers;
    device = λ device. inr (found.device device);
    short = λ _ short. absurd (full short);
    checked = λ zero. absurd (not_zero zero);
    any_moment = λ _. unchanged (sym found.planned.ends ∙ found.same);
  }

-- after a ride was taken up, and a recorder of it was put into a handle
pub reopened : (old new : RecoveryHandle) (before after : Handle) (plan : DevicePlan) (ride : FoundRide) (files : Files) → IsRecovery old
    → (IsShort old → ⊥) → IsTakenUp old new plan ride files → GoesOnWith (seen_in (recovery_story old).now) after → story_in_handle after ≡ files.notes.story
    → ReopensOn old new before after plan 0
reopened old new before after plan ride files asks full taken goes story =
    record {
      planned = (λ _. leads_for plan _ _ _ _ refl (sym story) taken.planned, λ no. absurd (no refl));
      none = λ no. absurd (no asks);
      asks = λ _ wants. absurd (omega (arith, wants));
      ended = λ _. taken.ended;
      same = λ no. absurd (no refl);
      answers = λ _. inr (inl (refl, goes));
      device = λ device. absurd (omega (arith, device));
      short = λ _ short. absurd (full short);
      checked = λ _. subst (λ (later : Story). HasCounted (seen_of Journal (recovery_story old)) (seen_of Data later)) (sym story) taken.checked;
      any_moment = λ _. subst (λ (later : Story). Rebuilds (seen_in (recovery_story old).now) (recovery_story old) later) taken.planned.ends taken.any_moment;
    }

-- a recovery that refuses has changed nothing
pub refuses_quietly : (fault : RecFault) (contents : Contents) (old new : Story) → RecoveryAnswers contents new (Err fault) → (fault ≡ Device → ⊥)
    → Rebuilds contents old new → new ≡ old
refuses_quietly fault contents old new is never (unchanged same) = same
refuses_quietly NothingRecorded contents old new is never (standing body list recording commits run) = absurd (⊎_elim
    (λ (empty : contents.in_data ≡ []). omega (arith, commits.in_data.long, ap (λ (xs : List ℕ). length xs) empty))
    (λ nothing. cc) is)
refuses_quietly Damaged contents old new is never (standing body list recording commits run) =
    absurd (is.no_list list (record { allowed = recording.allowed; body = body; is_body = recording.is_body; within = recording.within; commits = commits }))
refuses_quietly Device contents old new is never (standing body list recording commits run) = absurd (never refl)
refuses_quietly NotEmpty contents old new is never (standing body list recording commits run) = absurd is
refuses_quietly (Refused refusal) contents old new is never (standing body list recording commits run) = absurd is
refuses_quietly Full contents old new is never (standing body list recording commits run) = absurd is
refuses_quietly JournalFull contents old new is never (standing body list recording commits run) = absurd is
refuses_quietly Failed contents old new is never (standing body list recording commits run) = absurd is

-- a window that is not short
pub not_short : (handle : RecoveryHandle) → (IsShort handle → ⊥) → handle.count ≤ handle.filled
not_short handle full =
    elim (cases_lt handle.filled handle.count) [
      | inl short ↦ absurd (full short)
      | inr long ↦ long
    ]

-- a window of the body that was filled, and the next one
pub moved : (handle : RecoveryHandle) (old new : Recovery) (given : List ℕ) (at : ℕ) → HasMoved (length given) old new → length given ≡ handle.filled
    → (handle.at ≡ place_of old) × (handle.count ≡ min 512 (old.reader.len - old.reader.at)) → at ≡ place_of new → handle.count ≤ handle.filled
    → handle.at + 416 ≤ at
moved handle old new given at moves long placed is full = omega (arith, moves.more, moves.far, long, placed.0, placed.1, is, full)

-- the window of the journal is its front
pub journal_front : (old new : RecoveryHandle) (story : Story) → IsRecovery old → old.phase ≡ 1 → new.filled ≡ old.filled → new.window ≡ old.window
    → story ≡ recovery_story old → AreAt 0 (take new.filled new.window) (seen_of Journal story)
journal_front old new story asks finds filled window same =
    let placed = (old.placed asks.0).finds finds in
    let front : AreAt 0 (take old.filled old.window) (seen_of Journal (recovery_story old)) =
    subst (λ (at : ℕ). AreAt at (take old.filled old.window) (seen_of Journal (recovery_story old))) placed.1
    (subst (λ (file : ℕ). AreAt old.at (take old.filled old.window) (seen_of (which_of file) (recovery_story old))) placed.0 (old.part asks.0 asks.1)) in
    subst (λ (story : Story). AreAt 0 (take new.filled new.window) (seen_of Journal story)) (sym same)
    (subst (λ (n : ℕ). AreAt 0 (take n new.window) (seen_of Journal (recovery_story old))) (sym filled)
    (subst (λ (bytes : List ℕ). AreAt 0 (take old.filled bytes) (seen_of Journal (recovery_story old))) (sym window) front))

-- and shows its first bytes, as many as it has of them
pub front_shows : (k : ℕ) (front seen : List ℕ) → AreAt 0 front seen → min k (length seen) ≤ length front → take k front ≡ take k seen
front_shows k front seen are long =
    elim (cases_lt (length front) k) [
      | inl few ↦ ap (take k) (are ∙ take_all (length front) seen (omega (arith, few, long)))
      | inr many ↦ ap (take k) are ∙ take-take k (length front) seen many
    ]
