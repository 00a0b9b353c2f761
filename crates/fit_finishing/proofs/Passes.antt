-- A finished file is an activity: it has the laps, sessions and activity messages that a check asks for.
use Rattle.std.proofs.Common.{◌≡◌, ℕ, ◌+◌, ◌≤◌, Bool, true, false, cond, List, [], ◌∷◌, ◌++◌, map, refl, sym, ◌∙◌, arith}
use Rattle.std.specs.Prelude.{zero, suc, Ok, not, count_by, ◌==◌}
use Rattle.std.specs.List.{filter}
use Rattle.std.proofs.lemmas.Bool.{eq-eqb, ne_eqb, true≢false}
use Rattle.std.proofs.lemmas.List.Sums.{sum_by-append, sum_by-cons}
use Rattle.fit_grammar.specs.Format.Message.{Message}
use Rattle.fit_activity.specs.declared.totals.summary.LapSummary.{LapSummary}
use Rattle.fit_activity.specs.declared.totals.summary.SessionSummary.{SessionSummary}
use Rattle.fit_activity.specs.declared.totals.summary.ActivitySummary.{ActivitySummary}
use Rattle.fit_activity.specs.Rides.Recording.{Recorded, is_lap, start_time}
use Rattle.fit_activity.specs.Rides.Refusal.{has_stopped}
use Rattle.fit_activity.specs.Rides.Stretch.{end_time, lap_of, activity_of}
use Rattle.fit_activity.specs.Messages.ProfileField.{as_message}
use Rattle.fit_activity.specs.Messages.ProfileMessage.{file_id_message, event_message, stop_all_type, lap_message, session_end, session_message, activity_message}
use Rattle.fit_activity.specs.Messages.RideMessages.{closing_messages_of, session_with}
use Rattle.fit_activity.specs.Files.Activity.{has_global, begins_with_file_id, is_activity_file, messages_counted, activity_in, summary_of}
use Rattle.fit_finishing.specs.declared.closing.Lacks.{Lacks}
use Rattle.fit_finishing.specs.declared.details.Details.{Details}
use Rattle.fit_finishing.specs.Details.{with_details}
use Rattle.fit_finishing.specs.Lacking.{goes_on, lacks_in, lacks_lap, is_lacking, number_stated, laps_finished, details_of, opening_for, closing_for}
use Rattle.fit_finishing.specs.Finished.{IsFinishable}

-- a message that may be there
counted-if : (global : ℕ) (b : Bool) (m : Message) (messages : List Message)
    → messages_counted global (cond b (m ∷ messages) messages) ≡ cond b (cond (has_global global m) 1 0) 0 + messages_counted global messages
counted-if global true m messages = sum_by-cons (λ x. cond (has_global global x) 1 0) m messages
counted-if global false m messages = omega arith

-- the closing messages that a file lacks
abbrev added_by : Lacks → Details → Bool → ℕ → LapSummary → SessionSummary → ActivitySummary → List Message
added_by lacks details stopped time lap session activity =
    filter (is_lacking lacks) (map (with_details details) (map as_message (closing_messages_of stopped time lap session activity)))

module _ (lacks : Lacks) (details : Details) (time : ℕ) (lap : LapSummary) (session : SessionSummary) (activity : ActivitySummary) where
  abbrev here : List Message
  here = added_by lacks details true time lap session activity

  -- a stop before them takes none away
  after-stop : (global : ℕ) (stopped : Bool) → messages_counted global here ≤ messages_counted global (added_by lacks details stopped time lap session activity)
  after-stop global true = omega arith
  after-stop global false = omega (arith, counted-if global lacks.stop (as_message (event_message time stop_all_type)) here)

  abbrev after_lap : List Message
  after_lap = filter (is_lacking lacks) (with_details details (as_message (session_message session)) ∷ with_details details (as_message (activity_message activity)) ∷ [])

  abbrev after_session : List Message
  after_session = filter (is_lacking lacks) (with_details details (as_message (activity_message activity)) ∷ [])

  has-lap : (stopped : Bool) → cond lacks.lap 1 0 ≤ messages_counted 19 (added_by lacks details stopped time lap session activity)
  has-lap stopped = omega (arith, after-stop 19 stopped, counted-if 19 lacks.lap (as_message (lap_message lap session_end)) after_lap)

  has-session : (stopped : Bool) → cond lacks.session 1 0 ≤ messages_counted 18 (added_by lacks details stopped time lap session activity)
  has-session stopped =
      omega (
        arith,
        after-stop 18 stopped,
        counted-if 18 lacks.lap (as_message (lap_message lap session_end)) after_lap,
        counted-if 18 lacks.session (with_details details (as_message (session_message session))) after_session,
      )

  has-activity : (stopped : Bool) → cond lacks.activity 1 0 ≤ messages_counted 34 (added_by lacks details stopped time lap session activity)
  has-activity stopped =
      omega (
        arith,
        after-stop 34 stopped,
        counted-if 34 lacks.lap (as_message (lap_message lap session_end)) after_lap,
        counted-if 34 lacks.session (with_details details (as_message (session_message session))) after_session,
        counted-if 34 lacks.activity (with_details details (as_message (activity_message activity))) [],
      )

-- what there is none of is added
some-lap : (n sessions heard : ℕ) (went_on : Bool) → 1 ≤ n + cond (lacks_lap n sessions heard went_on) 1 0
some-lap zero sessions heard went_on = omega arith
some-lap (suc n) sessions heard went_on = omega arith

some-or-none : (n : ℕ) → 1 ≤ n + cond (n == 0) 1 0
some-or-none zero = omega arith
some-or-none (suc n) = omega arith

some : (global : ℕ) (messages added : List Message) (n : ℕ) → n ≤ messages_counted global added → 1 ≤ messages_counted global messages + n → (messages_counted global (messages ++ added) == 0) ≡ false
some global messages added n has least =
    let whole = sum_by-append (λ m. cond (has_global global m) 1 0) messages added in
    ne_eqb (messages_counted global (messages ++ added)) 0 (λ none. omega (arith, whole, none, has, least))

-- a file is one that begins with a file_id, and has one of each
accepted : (all : List Message) → begins_with_file_id all ≡ true → is_activity_file all ≡ true
    → (messages_counted 19 all == 0) ≡ false → (messages_counted 18 all == 0) ≡ false → (messages_counted 34 all == 0) ≡ false
    → activity_in all ≡ Ok (summary_of all)
accepted all begins is_activity laps sessions activities = rw begins (rw is_activity (rw laps (rw sessions (rw activities refl))))

-- with messages before them there are still some
still-some : (global : ℕ) (before all : List Message) → (messages_counted global all == 0) ≡ false → (messages_counted global (before ++ all) == 0) ≡ false
still-some global before all is =
    let whole = sum_by-append (λ m. cond (has_global global m) 1 0) before all in
    ne_eqb (messages_counted global (before ++ all)) 0 (λ none. true≢false (sym (eq-eqb (messages_counted global all) 0 (omega (arith, whole, none))) ∙ is))

begun : (b : Bool) (first : Message) (others : List Message) → begins_with_file_id (first ∷ []) ≡ true → is_activity_file (first ∷ []) ≡ true
    → (b ≡ false → (begins_with_file_id others ≡ true) × (is_activity_file others ≡ true))
    → (begins_with_file_id (cond b (first ∷ []) [] ++ others) ≡ true) × (is_activity_file (cond b (first ∷ []) [] ++ others) ≡ true)
begun true first others is type own = (is, type)
begun false first others is type own = own refl

before-closing : (messages more : List Message) → begins_with_file_id messages ≡ true → is_activity_file messages ≡ true
    → (begins_with_file_id (messages ++ more) ≡ true) × (is_activity_file (messages ++ more) ≡ true)
before-closing [] more begins is = absurd (true≢false (sym begins))
before-closing (m ∷ messages) more begins is = (begins, is)

not-false : (b : Bool) → not b ≡ false → b ≡ true
not-false true is = refl
not-false false is = absurd (true≢false is)

pub passes : (messages : List Message) (list : List Recorded) → IsFinishable messages
    → activity_in (opening_for messages list ++ (messages ++ closing_for messages list))
    ≡ Ok (summary_of (opening_for messages list ++ (messages ++ closing_for messages list)))
passes messages list finishable =
    let lacks = lacks_in messages list in
    let before = opening_for messages list in
    let added = closing_for messages list in
    let session = session_with (number_stated (laps_finished lacks messages)) list in
    let laps = some 19 messages added _ (has-lap lacks (details_of messages list) (end_time list) (lap_of list) session (activity_of list) (has_stopped list)) (some-lap (messages_counted 19 messages) (messages_counted 18 messages) (count_by is_lap list) (goes_on list)) in
    let sessions = some 18 messages added _ (has-session lacks (details_of messages list) (end_time list) (lap_of list) session (activity_of list) (has_stopped list)) (some-or-none (messages_counted 18 messages)) in
    let activities = some 34 messages added _ (has-activity lacks (details_of messages list) (end_time list) (lap_of list) session (activity_of list) (has_stopped list)) (some-or-none (messages_counted 34 messages)) in
    let begins = begun lacks.file_id (as_message (file_id_message (start_time list) 0)) (messages ++ added) refl refl
    (λ not_added.
    let own = not-false (begins_with_file_id messages) not_added in
    before-closing messages added own (finishable own)) in
    accepted (before ++ (messages ++ added)) begins.0 begins.1
    (still-some 19 before (messages ++ added) laps)
    (still-some 18 before (messages ++ added) sessions)
    (still-some 34 before (messages ++ added) activities)
