-- A ride goes well if no failure is arranged and there is room: for the law.
use Rattle.std.proofs.Common.{◌≡◌, ℕ, false, List, [], ◌∷◌, ◌++◌, map, length, None, Some, refl, sym, ap, subst, ◌∙◌, true≢false}
use Rattle.fit_activity.specs.declared.recording.entry.Entry.{Entry}
use Rattle.fit_activity.specs.declared.recording.entry.Entry.TheVariants as entries
use Rattle.fit_activity.specs.declared.recording.start.Start.{Start}
use Rattle.fit_activity.specs.Rides.Recording.{Recorded, Started, Added}
use Rattle.fit_activity.specs.Rides.Refusal.{refusal_of, start_refusal}
use Rattle.fit_recorder.specs.declared.fault.RecFault.TheVariants as faults
use Rattle.fit_histories.specs.declared.command.Command.{Command}
use Rattle.fit_histories.specs.declared.command.Command.TheVariants as commands
use Rattle.fit_histories.specs.declared.event.Event.{Event}
use Rattle.fit_histories.specs.Histories.Arranged.{Arranged, nothing_arranged, MayFail, arranged_after}
use Rattle.fit_histories.specs.Histories.Plain.{IsRide, RodeWell, HadRoom, is_full, event_command, RidesGoWell}
use Rattle.fit_histories.specs.Histories.Runs.{Runs}
use Rattle.fit_histories.specs.Histories.Table.{History, Riding, Outcome, Done, Stopped, Fault, Step, StartStep, HandStep, CommitStep, StopStep, at_first}

-- ---- a run as commands and answers

abbrev Reports : History → Arranged → List Command → List Outcome → Type 0
Reports before arranged [] [] = Unit {0}
Reports before arranged (command ∷ commands) (outcome ∷ outcomes) =
    (after : History) × Step before command outcome after × MayFail arranged outcome × Reports after (arranged_after arranged command outcome) commands outcomes
Reports before arranged [] (outcome ∷ outcomes) = ⊥
Reports before arranged (command ∷ commands) [] = ⊥

run_reports : (before : History) (arranged : Arranged) (events : List Event) (outcomes : List Outcome) → Runs before arranged events outcomes →
    Reports before arranged (map event_command events) outcomes
run_reports before arranged [] [] runs = tt
run_reports before arranged (event ∷ events) (outcome ∷ outcomes) runs =
    (runs.0, runs.1, runs.2, run_reports runs.0 (arranged_after arranged event.command outcome) events outcomes runs.3)
run_reports before arranged [] (outcome ∷ outcomes) runs = absurd runs
run_reports before arranged (event ∷ events) [] runs = absurd runs

-- ---- the device does not fail if nothing is arranged

no_failure : {A : Type 0} → MayFail nothing_arranged (Fault faults.Device) → A
no_failure may = absurd (true≢false (sym (may refl)))

not_refused : {A R : Type 0} {r : R} → None ≡ Some r → A
not_refused same = absurd cc

-- ---- one step of a ride

module _ (list : List Recorded) (promise : ℕ) where
  -- the state of the history after an entry
  abbrev with_entry : Entry → History
  with_entry entry = Riding (list ++ Added entry ∷ []) promise false false

  commit_done : (outcome : Outcome) (after : History) (rest : List Command) (outcomes : List Outcome) → CommitStep (Riding list promise false false) outcome after →
      MayFail nothing_arranged outcome → is_full outcome ≡ false → Reports after (arranged_after nothing_arranged commands.Commit outcome) rest outcomes →
      (Reports (Riding list (length list) false false) nothing_arranged rest outcomes → RodeWell list rest outcomes) →
      RodeWell list (commands.Commit ∷ rest) (outcome ∷ outcomes)
  commit_done Done after rest outcomes step may room reports goes = goes (subst (λ h. Reports h nothing_arranged rest outcomes) step reports)
  commit_done (Fault faults.Device) after rest outcomes step may room reports goes = no_failure may
  commit_done (Fault faults.JournalFull) after rest outcomes step may room reports goes = absurd (true≢false (sym step.0))
  commit_done outcome after rest outcomes step may room reports goes = absurd step

  hand_done : (entry : Entry) (outcome : Outcome) (after : History) (rest : List Command) (outcomes : List Outcome) (A : Outcome → Type 0) →
      HandStep (Riding list promise false false) entry outcome after → refusal_of list entry ≡ None → MayFail nothing_arranged outcome → is_full outcome ≡ false →
      Reports after (arranged_after nothing_arranged (commands.Entry entry) outcome) rest outcomes →
      (Reports (with_entry entry) nothing_arranged rest outcomes → A Done) → A outcome
  hand_done entry Done after rest outcomes A step allowed may room reports goes = goes (subst (λ h. Reports h nothing_arranged rest outcomes) step.1 reports)
  hand_done entry (Fault (faults.Refused refusal)) after rest outcomes A step allowed may room reports goes = not_refused (sym allowed ∙ step.0)
  hand_done entry (Fault faults.Full) after rest outcomes A step allowed may room reports goes = absurd (true≢false room)
  hand_done entry (Fault faults.Device) after rest outcomes A step allowed may room reports goes = no_failure may
  hand_done entry outcome after rest outcomes A step allowed may room reports goes = absurd step

  stop_done : (time : ℕ) (outcome : Outcome) (after : History) (rest : List Command) (outcomes : List Outcome) → StopStep (Riding list promise false false) time outcome after →
      refusal_of list (entries.Stop time) ≡ None → rest ≡ [] → MayFail nothing_arranged outcome →
      Reports after (arranged_after nothing_arranged (commands.Entry (entries.Stop time)) outcome) rest outcomes →
      RodeWell list (commands.Entry (entries.Stop time) ∷ rest) (outcome ∷ outcomes)
  stop_done time (Stopped file) after [] [] step allowed last may reports = (step.1, step.2, refl)
  stop_done time (Stopped file) after [] (other ∷ outcomes) step allowed last may reports = absurd reports
  stop_done time (Stopped file) after (other ∷ rest) outcomes step allowed last may reports = absurd cc
  stop_done time (Fault (faults.Refused refusal)) after rest outcomes step allowed last may reports = not_refused (sym allowed ∙ step.0)
  stop_done time (Fault faults.Device) after rest outcomes step allowed last may reports = no_failure may
  stop_done time outcome after rest outcomes step allowed last may reports = absurd step

rode_well : (list : List Recorded) (promise : ℕ) (commands : List Command) (outcomes : List Outcome) → IsRide list commands →
    Reports (Riding list promise false false) nothing_arranged commands outcomes → HadRoom outcomes → RodeWell list commands outcomes
rode_well list promise [] outcomes ride reports room = absurd ride
rode_well list promise (command ∷ rest) [] ride reports room = absurd reports
rode_well list promise (commands.Commit ∷ rest) (outcome ∷ outcomes) ride reports room =
    commit_done list promise outcome reports.0 rest outcomes reports.1 reports.2 room.0 reports.3
    (λ next. rode_well list (length list) rest outcomes ride next room.1)
rode_well list promise (commands.Entry (entries.Stop time) ∷ rest) (outcome ∷ outcomes) ride reports room =
    stop_done list promise time outcome reports.0 rest outcomes reports.1 ride.0 ride.1 reports.2 reports.3
rode_well list promise (commands.Entry (entries.Sample sample) ∷ rest) (outcome ∷ outcomes) ride reports room =
    hand_done list promise (entries.Sample sample) outcome reports.0 rest outcomes (λ t. RodeWell list (commands.Entry (entries.Sample sample) ∷ rest) (t ∷ outcomes))
    reports.1 ride.0 reports.2 room.0 reports.3
    (λ next. rode_well (list ++ Added (entries.Sample sample) ∷ []) promise rest outcomes ride.1 next room.1)
rode_well list promise (commands.Entry (entries.Lap time) ∷ rest) (outcome ∷ outcomes) ride reports room =
    hand_done list promise (entries.Lap time) outcome reports.0 rest outcomes (λ t. RodeWell list (commands.Entry (entries.Lap time) ∷ rest) (t ∷ outcomes))
    reports.1 ride.0 reports.2 room.0 reports.3
    (λ next. rode_well (list ++ Added (entries.Lap time) ∷ []) promise rest outcomes ride.1 next room.1)
rode_well list promise (commands.Entry (entries.Pause time) ∷ rest) (outcome ∷ outcomes) ride reports room =
    hand_done list promise (entries.Pause time) outcome reports.0 rest outcomes (λ t. RodeWell list (commands.Entry (entries.Pause time) ∷ rest) (t ∷ outcomes))
    reports.1 ride.0 reports.2 room.0 reports.3
    (λ next. rode_well (list ++ Added (entries.Pause time) ∷ []) promise rest outcomes ride.1 next room.1)
rode_well list promise (commands.Entry (entries.Resume time) ∷ rest) (outcome ∷ outcomes) ride reports room =
    hand_done list promise (entries.Resume time) outcome reports.0 rest outcomes (λ t. RodeWell list (commands.Entry (entries.Resume time) ∷ rest) (t ∷ outcomes))
    reports.1 ride.0 reports.2 room.0 reports.3
    (λ next. rode_well (list ++ Added (entries.Resume time) ∷ []) promise rest outcomes ride.1 next room.1)
rode_well list promise (command ∷ rest) (outcome ∷ outcomes) ride reports room = absurd ride

-- ---- the whole ride

start_done : (start : Start) (outcome : Outcome) (after : History) (rest : List Command) (outcomes : List Outcome) → StartStep at_first start outcome after →
    start_refusal start ≡ None → MayFail nothing_arranged outcome → HadRoom outcomes → IsRide (Started start ∷ []) rest →
    Reports after (arranged_after nothing_arranged (commands.Start start) outcome) rest outcomes →
    (outcome ≡ Done) × RodeWell (Started start ∷ []) rest outcomes
start_done start Done after rest outcomes step allowed may room ride reports =
    (refl, rode_well (Started start ∷ []) 1 rest outcomes ride (subst (λ h. Reports h nothing_arranged rest outcomes) step.2 reports) room)
start_done start (Fault (faults.Refused refusal)) after rest outcomes step allowed may room ride reports = not_refused (sym allowed ∙ step.0)
start_done start (Fault faults.NotEmpty) after rest outcomes step allowed may room ride reports = absurd (true≢false (sym step.1))
start_done start (Fault faults.Device) after rest outcomes step allowed may room ride reports = no_failure may
start_done start outcome after rest outcomes step allowed may room ride reports = absurd step

whole_ride : (start : Start) (first : Command) (rest : List Command) (outcomes : List Outcome) → first ≡ commands.Start start → start_refusal start ≡ None →
    IsRide (Started start ∷ []) rest → Reports at_first nothing_arranged (first ∷ rest) outcomes → HadRoom outcomes →
    (others : List Outcome) × (outcomes ≡ Done ∷ others) × RodeWell (Started start ∷ []) rest others
whole_ride start first rest [] is allowed ride reports room = absurd reports
whole_ride start first rest (outcome ∷ outcomes) is allowed ride reports room =
    let from = subst (λ (c : Command). Reports at_first nothing_arranged (c ∷ rest) (outcome ∷ outcomes)) is reports in
    let done = start_done start outcome from.0 rest outcomes from.1 allowed from.2 room.1 ride from.3 in
    (outcomes, ap (λ (t : Outcome). t ∷ outcomes) done.0, done.1)

pub rides_go_well : RidesGoWell
rides_go_well start first events all is allowed ride runs room =
    whole_ride start first.command (map event_command events) all is allowed ride (run_reports at_first nothing_arranged (first ∷ events) all runs) room
