-- The finished file of an allowed list is an activity, and its summary is that of the list.
use Rattle.std.proofs.Common.{◌≡◌, ℕ, ◌+◌, ◌-◌, ◌<◌, Bool, true, false, cond, nat_eq, List, [], ◌∷◌, ◌++◌, length, map, Option, Some, None, refl, sym, ap, ◌∙◌, arith}
use Rattle.std.specs.Prelude.{Ok, Err, unwrap_or, option_map, count_by, find, IfSome}
use Rattle.std.specs.Option.{option_or}
use Rattle.std.proofs.lemmas.Bool.{ne_eqb}
use Rattle.std.proofs.lemmas.List.{map-append}
use Rattle.std.proofs.lemmas.List.Sums.{sum_by-append, sum_by-cons, count_by-le-length}
use Rattle.std.proofs.lemmas.List.Folds.{find-append}
use Rattle.fit_grammar.specs.Format.Message.{Message}
use Rattle.fit_activity.specs.declared.activity.Summary.{Summary}
use Rattle.fit_activity.specs.declared.activity.ActivityFault.TheVariants.{NoLap}
use Rattle.fit_activity.specs.declared.activity.seen.SessionValues.{SessionValues}
use Rattle.fit_activity.specs.declared.recording.entry.Entry.TheVariants.{Sample, Lap, Pause, Resume, Stop}
use Rattle.fit_activity.specs.declared.totals.summary.LapSummary.{LapSummary}
use Rattle.fit_activity.specs.declared.totals.summary.SessionSummary.{SessionSummary}
use Rattle.fit_activity.specs.declared.totals.summary.ActivitySummary.{ActivitySummary}
use Rattle.fit_activity.specs.Rides.Recording.{Recorded, Started, Added, is_sample, is_lap}
use Rattle.fit_activity.specs.Rides.Stretch.{known_distance, end_time, session_of, lap_of, activity_of}
use Rattle.fit_activity.specs.Rides.Refusal.{has_stopped, Allowed}
use Rattle.fit_activity.specs.Messages.ProfileField.{as_message}
use Rattle.fit_activity.specs.Messages.ProfileMessage.{session_message}
use Rattle.fit_activity.specs.Messages.RideMessages.{profile_messages_of, profile_messages_after, messages_spoken, spoken, closing_messages_of, closing}
use Rattle.fit_activity.specs.Files.Activity.{has_global, messages_counted, activity_in}
use Rattle.fit_activity.specs.Private.Seen.{session_values, first_session_values, activity_seen}
use Rattle.fit_activity.specs.Files.Finished.{summary_of_list}
use Rattle.fit_activity.proofs.FinishedActivity.Passed.{values_by, seen_from}
use Rattle.fit_activity.proofs.OneList.Reheard.{messages_after}
use Rattle.fit_activity.proofs.RunningTotals.Bounded.{IsValid, in-bounds, valid-start, timer-le}

-- the messages of an element: a sample has a record, a lap has a lap, and none has a session or an activity
record Counts (messages : List Message) (r : Recorded) : Type 0 where
  records : messages_counted 20 messages ≡ cond (is_sample r) 1 0
  laps : messages_counted 19 messages ≡ cond (is_lap r) 1 0
  sessions : messages_counted 18 messages ≡ 0
  activities : messages_counted 34 messages ≡ 0

each-counts : (before : List Recorded) (r : Recorded) → Counts (messages_spoken before r) r
each-counts before (Started s) = record { records = refl; laps = refl; sessions = refl; activities = refl }
each-counts before (Added (Sample s)) = record { records = refl; laps = refl; sessions = refl; activities = refl }
each-counts before (Added (Lap time)) = record { records = refl; laps = refl; sessions = refl; activities = refl }
each-counts before (Added (Pause time)) = record { records = refl; laps = refl; sessions = refl; activities = refl }
each-counts before (Added (Resume time)) = record { records = refl; laps = refl; sessions = refl; activities = refl }
each-counts before (Added (Stop time)) = record { records = refl; laps = refl; sessions = refl; activities = refl }

-- if each element that passes the test has one such message and others none, a list has as many as elements that pass
counts : (global : ℕ) (test : Recorded → Bool) → ((before : List Recorded) (r : Recorded) → messages_counted global (messages_spoken before r) ≡ cond (test r) 1 0)
    → (before list : List Recorded) → messages_counted global (messages_after before list) ≡ count_by test list
counts global test each before [] = refl
counts global test each before (r ∷ list) =
    let rest = profile_messages_after (before ++ r ∷ []) list in
    ap (messages_counted global) (map-append as_message (profile_messages_of before r) rest)
    ∙ sum_by-append (λ m. cond (has_global global m) 1 0) (messages_spoken before r) (map as_message rest)
    ∙ ap (λ (n : ℕ). n + messages_counted global (map as_message rest)) (each before r)
    ∙ ap (λ (n : ℕ). cond (test r) 1 0 + n) (counts global test each (before ++ r ∷ []) list)
    ∙ sym (sum_by-cons (λ x. cond (test x) 1 0) r list)

none-passes : (list : List Recorded) → count_by (λ r. false) list ≡ 0
none-passes [] = refl
none-passes (r ∷ list) = omega (arith, sum_by-cons (λ (x : Recorded). 0) r list, none-passes list)

pub records-spoken : (list : List Recorded) → messages_counted 20 (spoken list) ≡ count_by is_sample list
records-spoken list = counts 20 is_sample (λ before r. (each-counts before r).records) [] list

-- at least one of its messages is not a record
pub records-few : (list : List Recorded) → Allowed list → messages_counted 20 (spoken list) < length (spoken list)
records-few [] allowed = absurd allowed
records-few (Added e ∷ list) allowed = absurd allowed
records-few (Started s ∷ list) allowed = omega (arith, count_by-le-length (has_global 20) (messages_after (Started s ∷ []) list))

-- if no message passes a test, none is found by it
not-found : (test : Message → Bool) (messages : List Message) → count_by test messages ≡ 0 → find test messages ≡ None
not-found test [] none = refl
not-found test (m ∷ messages) none =
    let whole = sym (sum_by-cons (λ x. cond (test x) 1 0) m messages) ∙ none in
    let own : (b : Bool) → cond {A = ℕ} b 1 0 + count_by test messages ≡ 0 → cond b (Some m) (find test messages) ≡ None =
    λ b. elim b as (λ v. cond {A = ℕ} v 1 0 + count_by test messages ≡ 0 → cond v (Some m) (find test messages) ≡ None)
    [ true ↦ λ e. absurd (omega (arith, e)) | false ↦ λ e. not-found test messages (omega (arith, e)) ] in
    own (test m) whole

-- the messages that close a recording: one lap, one session and one activity
record Closes (messages : List Message) (session : SessionSummary) : Type 0 where
  records : messages_counted 20 messages ≡ 0
  laps : messages_counted 19 messages ≡ 1
  sessions : messages_counted 18 messages ≡ 1
  activities : messages_counted 34 messages ≡ 1
  session' : find (has_global 18) messages ≡ Some (as_message (session_message session))

closes : (stopped : Bool) (time : ℕ) (lap : LapSummary) (session : SessionSummary) (activity : ActivitySummary)
    → Closes (map as_message (closing_messages_of stopped time lap session activity)) session
closes true time lap session activity = record { records = refl; laps = refl; sessions = refl; activities = refl; session' = refl }
closes false time lap session activity = record { records = refl; laps = refl; sessions = refl; activities = refl; session' = refl }

-- the values of the session
abbrev read : ℕ → Option ℕ
read value = cond (nat_eq value 0xFFFFFFFF) None (Some value)

valid-read : (value : ℕ) → IsValid value → read value ≡ Some value
valid-read value valid = ap (λ b. cond b None (Some value)) (ne_eqb value 0xFFFFFFFF (λ e. omega (arith, e, valid)))

option-read : (o : Option ℕ) → IfSome o IsValid → read (unwrap_or o 0xFFFFFFFF) ≡ o
option-read None valid = refl
option-read (Some value) valid = valid-read value valid

less-nothing : (o : Option ℕ) → IfSome o IsValid → IfSome (option_map (λ (d : ℕ). d - 0) o) IsValid
less-nothing None valid = tt
less-nothing (Some d) valid = omega (arith, valid)

abbrev values_from : Option ℕ → Option ℕ → Option ℕ → Option ℕ → SessionValues
values_from start elapsed timer distance = record { start = start; elapsed_ms = elapsed; timer_ms = timer; distance_cm = distance }

session-read : (session : SessionSummary) → IsValid session.stretch.start → IsValid session.stretch.elapsed → IsValid session.stretch.timer
    → IfSome session.stretch.distance IsValid
    → session_values (as_message (session_message session))
    ≡ values_from (Some session.stretch.start) (Some session.stretch.elapsed) (Some session.stretch.timer) session.stretch.distance
session-read session start elapsed timer distance =
    let s = session.stretch in
    ap (λ o. values_from o (read s.elapsed) (read s.timer) (read (unwrap_or s.distance 0xFFFFFFFF))) (valid-read s.start start)
    ∙ ap (λ o. values_from (Some s.start) o (read s.timer) (read (unwrap_or s.distance 0xFFFFFFFF))) (valid-read s.elapsed elapsed)
    ∙ ap (λ o. values_from (Some s.start) (Some s.elapsed) o (read (unwrap_or s.distance 0xFFFFFFFF))) (valid-read s.timer timer)
    ∙ ap (λ o. values_from (Some s.start) (Some s.elapsed) (Some s.timer) o) (option-read s.distance distance)

-- the summary of an activity, from what is kept of its messages
abbrev summary_from : ℕ → ℕ → SessionValues → Summary
summary_from records laps session =
    record {
      records = records;
      laps = laps;
      sessions = 1;
      start = session.start;
      elapsed_ms = session.elapsed_ms;
      timer_ms = session.timer_ms;
      distance_cm = session.distance_cm;
    }

judged-activity : (records laps : ℕ) (session : SessionValues)
    → activity_seen (seen_from true true true records (laps + 1) 1 1 session) ≡ Ok (summary_from records (laps + 1) session)
judged-activity records laps session =
    ap (λ b. cond b (Err NoLap) (Ok (summary_from records (laps + 1) session))) (ne_eqb (laps + 1) 0 (λ e. omega (arith, e)))

counted : (global : ℕ) (stated end : List Message) (a b : ℕ) → messages_counted global stated ≡ a → messages_counted global end ≡ b → messages_counted global (stated ++ end) ≡ a + b
counted global stated end a b before after = omega (arith, before, after, sum_by-append (λ m. cond (has_global global m) 1 0) stated end)

pub finished : (list : List Recorded) → Allowed list → activity_in (spoken list ++ closing list) ≡ Ok (summary_of_list list)
finished [] allowed = absurd allowed
finished (Added e ∷ list) allowed = absurd allowed
finished (Started s ∷ list) allowed =
    let whole = Started s ∷ list in
    let stated = spoken whole in
    let all = stated ++ closing whole in
    let end = closes (has_stopped whole) (end_time whole) (lap_of whole) (session_of whole) (activity_of whole) in
    let records : messages_counted 20 all ≡ count_by is_sample whole = omega (arith, counted 20 stated (closing whole) _ 0 (records-spoken whole) end.records) in
    let laps = counted 19 stated (closing whole) _ 1 (counts 19 is_lap (λ before r. (each-counts before r).laps) [] whole) end.laps in
    let none = counts 18 (λ r. false) (λ before r. (each-counts before r).sessions) [] whole ∙ none-passes whole in
    let sessions = counted 18 stated (closing whole) 0 1 none end.sessions in
    let activities = counted 34 stated (closing whole) 0 1 (counts 34 (λ r. false) (λ before r. (each-counts before r).activities) [] whole ∙ none-passes whole) end.activities in
    let session = find-append (has_global 18) stated (closing whole)
    ∙ ap (λ o. option_or o (find (has_global 18) (closing whole))) (not-found (has_global 18) stated none) ∙ end.session' in
    let bounds = in-bounds s list allowed.2 in
    let values = ap values_by session
    ∙ session-read (session_of whole) (valid-start s allowed.0 allowed.1) (omega (arith, bounds.long))
    (omega (arith, bounds.long, timer-le whole s.time (end_time whole))) (less-nothing (known_distance whole) bounds.distance) in
    ap (λ (n : ℕ). activity_seen (seen_from true true true n (messages_counted 19 all) (messages_counted 18 all) (messages_counted 34 all) (first_session_values all))) records
    ∙ ap (λ (n : ℕ). activity_seen (seen_from true true true (count_by is_sample whole) n (messages_counted 18 all) (messages_counted 34 all) (first_session_values all))) laps
    ∙ ap (λ (n : ℕ). activity_seen (seen_from true true true (count_by is_sample whole) (count_by is_lap whole + 1) n (messages_counted 34 all) (first_session_values all))) sessions
    ∙ ap (λ (n : ℕ). activity_seen (seen_from true true true (count_by is_sample whole) (count_by is_lap whole + 1) 1 n (first_session_values all))) activities
    ∙ ap (λ v. activity_seen (seen_from true true true (count_by is_sample whole) (count_by is_lap whole + 1) 1 1 v)) values
    ∙ judged-activity _ _ _
