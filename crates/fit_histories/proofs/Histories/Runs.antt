-- The answers so far, and those that may come to the remaining events: for `world::run`.
use Rattle.std.proofs.Common.{◌≡◌, ◌≢◌, ◌<◌, ◌≤◌, ◌+◌, ℕ, Bool, true, false, List, [], ◌∷◌, ◌++◌, length, get_or, drop, inl, inr, refl, sym, ap, subst, append_assoc}
use Rattle.std.proofs.lemmas.List.{drop_more, drop_all, append-nil}
use Rattle.fit_disk.specs.declared.memory.Memory.{Memory}
use Rattle.fit_disk.specs.Counts.{unplanned, no_calls}
use Rattle.fit_disk.specs.Events.{fresh}
use Rattle.fit_disk.specs.Memory.{memory_story, memory_counts, memory_schedule, is_spent}
use Rattle.fit_disk.specs.Story.{Story}
use Rattle.fit_disk.specs.State.{LeavesOnly}
use Rattle.fit_recorder.specs.declared.fault.RecFault.{RecFault}
use Rattle.fit_recorder.specs.declared.fault.RecFault.TheVariants.{JournalFull}
use Rattle.fit_recorder.specs.Files.NeverFull.{NeverFills}
use Rattle.fit_disk.proofs.Leaving.{rest_left}
use Rattle.fit_histories.specs.declared.event.Event.{Event}
use Rattle.fit_histories.specs.declared.reply.Reply.{Reply}
use Rattle.fit_histories.specs.declared.reply.Reply.TheVariants as replies
use Rattle.fit_histories.specs.declared.ride.Ride.{Ride}
use Rattle.fit_histories.specs.declared.ride.Ride.TheVariants as rides
use Rattle.fit_histories.specs.Simulation.Arranging.{IsArranged, Moves}
use Rattle.fit_histories.specs.Histories.Arranged.{Arranged, nothing_arranged, arranged_after}
use Rattle.fit_histories.specs.Histories.Runs.{NoneFull}
use Rattle.fit_histories.specs.Histories.Table.{History, Outcome, Fault, at_first}
use Rattle.fit_histories.specs.Rides.Ride.{disk_in}
use Rattle.fit_histories.specs.Rides.Begun.{RideBeginsForm}
use Rattle.fit_histories.specs.Rides.NeverFull.{NeverFull, StaysNeverFull}
use Rattle.fit_histories.specs.Rides.Standing.{StandsIn, TakesStepFrom, LeavesAllowed, content_of, outcome}
use Rattle.fit_histories.specs.Simulation.Choices.{takes, IsLeftBy}
use Rattle.fit_histories.specs.Simulation.Following.{Follows, FollowsChoices, Simulated, at_start}
use Rattle.fit_histories.proofs.Simulation.Counts.{moved, unspent}
use Rattle.fit_histories.proofs.Simulation.Following.{reply_of_outcome, reports_seen, stands_rests}

abbrev simulated : Memory → Simulated
simulated disk = record { files = memory_story disk; counts = memory_counts disk; schedule = memory_schedule disk }

-- The ride is in the state of a history after these answers, and these of all choice bytes are left. With any answers that may come from
-- there to the remaining events, they are answers to all events.
pub record Leads (checked : Bool) (all choices : List ℕ) (events left : List Event) (outcomes : List Outcome) (ride : Ride Memory) : Type 0 where
  pub history : History
  pub arranged : Arranged
  pub stands : StandsIn true memory_story ride history
  pub is_arranged : IsArranged arranged (memory_counts (disk_in ride)) (memory_schedule (disk_in ride))
  pub never_full : NeverFull memory_story ride
  pub none_full : (rest : List Outcome) → NoneFull rest → NoneFull (outcomes ++ rest)
  pub leads : (rest : List Outcome) → Follows checked history arranged (simulated (disk_in ride)) choices left rest → FollowsChoices checked all events (outcomes ++ rest)

empty_rests : (story : Story) → story ≡ fresh → LeavesAllowed at_first story
empty_rests story is contents left =
    let none : contents.in_data ≡ [] = rest_left story.now.data_file [] contents.in_data (ap (λ (s : Story). s.now.data_file) is) left.data_left in
    record { keeps = inr (refl, inl none); empty = λ begun. none }

empty_never_full : (story : Story) → story ≡ fresh → LeavesOnly NeverFills story.now
empty_never_full story is contents left = inl (rest_left story.now.data_file [] contents.in_data (ap (λ (s : Story). s.now.data_file) is) left.data_left)

-- an answer is that the journal is full only if the reply is
not_full : (reply : Reply) (file : List ℕ) → reply ≢ replies.Refused JournalFull → outcome reply file ≢ Fault JournalFull
not_full replies.Done file other is = absurd cc
not_full replies.Stopped file other is = absurd cc
not_full (replies.Recovered summary) file other is = absurd cc
not_full (replies.Refused fault) file other is = let same : fault ≡ JournalFull = cc in other (ap (λ (fault : RecFault). replies.Refused fault) same)
not_full replies.NoRecorder file other is = absurd cc

-- before the first event
pub first_leads : (checked : Bool) (choices : List ℕ) (events : List Event) (disk : Memory) → memory_story disk ≡ fresh → memory_counts disk ≡ no_calls →
    memory_schedule disk ≡ unplanned no_calls → Leads checked choices choices events events [] (rides.Idle disk)
first_leads checked choices events disk story counts schedule = record {
  history = at_first;
  arranged = nothing_arranged;
  stands = empty_rests (memory_story disk) story;
  is_arranged = subst (λ s. IsArranged nothing_arranged (memory_counts disk) s) (sym schedule) (record {
    no_cut = λ cut. refl;
    no_fail = λ cut fail. tt;
  });
  never_full = empty_never_full (memory_story disk) story;
  none_full = λ rest none. none;
  leads = λ rest follows.
      let same : simulated disk ≡ at_start = cc in
      subst (λ s. Follows checked at_first nothing_arranged s choices events rest) same follows;
}

one_more : (checked : Bool) (all choices : List ℕ) (taken : ℕ) (events left : List Event) (event : Event) (outcomes : List Outcome) (ride next : Ride Memory)
    (reply : Reply) (file : List ℕ) → is_spent (disk_in ride) ≡ false → is_spent (disk_in next) ≡ false →
    Leads checked all choices events (event ∷ left) outcomes ride →
    ((before : History) → StandsIn true memory_story ride before → TakesStepFrom true memory_story before event.command reply next) → StaysNeverFull true memory_story ride reply next →
    RideBeginsForm true memory_story checked event.command reply ride next →
    Moves event.command reply (memory_counts (disk_in ride)) (memory_schedule (disk_in ride)) (memory_counts (disk_in next)) (memory_schedule (disk_in next)) →
    file ≡ content_of memory_story next → taken ≡ takes event.command choices (memory_story (disk_in ride)).now →
    IsLeftBy event.command choices reply (memory_story (disk_in ride)) (memory_story (disk_in next)) →
    Leads checked all (drop taken choices) events left (outcomes ++ outcome reply file ∷ []) next
one_more checked all choices taken events left event outcomes ride next reply file not_spent next_not_spent known step stays form moves file_is taken_is is_left =
    let goes = step known.history known.stands in
    let not = stays refl known.history known.stands known.never_full in
    let content = content_of memory_story next in
    let may = moved known.arranged event.command reply content (disk_in ride) (disk_in next) not_spent next_not_spent moves known.is_arranged in
    let states : outcome reply file ≡ outcome reply content = ap (outcome reply) file_is in
    record {
      history = goes.after;
      arranged = arranged_after known.arranged event.command (outcome reply content);
      stands = goes.stands;
      is_arranged = may.1;
      never_full = not.never_full;
      none_full = λ rest none. rw append_assoc (known.none_full (outcome reply file ∷ rest) (not_full reply file not.not_full, none));
      leads = λ rest follows.
          rw append_assoc
          (known.leads (outcome reply file ∷ rest)
          (rw states (
            goes.after,
            simulated (disk_in next),
            record {
              step = goes.step;
              may_fail = may.0;
              moves = rw (reply_of_outcome reply content) moves;
              as_planned = (unspent (disk_in next) next_not_spent).0;
              left = rw (reply_of_outcome reply content) is_left;
              form = rw (reply_of_outcome reply content) (form refl known.history known.stands);
              reports = reports_seen known.history goes.after event.command reply next goes.step goes.stands;
              rests = stands_rests next goes.after goes.stands;
            },
            rw (← taken_is) follows,
          )));
    }

-- one more event
pub leads_on : (checked : Bool) (all choices : List ℕ) (taken : ℕ) (events : List Event) (i : ℕ) (d : Event) (outcomes : List Outcome) (ride next : Ride Memory)
    (reply : Reply) (file : List ℕ) → i < length events → is_spent (disk_in ride) ≡ false → is_spent (disk_in next) ≡ false →
    Leads checked all choices events (drop i events) outcomes ride →
    ((before : History) → StandsIn true memory_story ride before → TakesStepFrom true memory_story before (get_or events i d).command reply next) → StaysNeverFull true memory_story ride reply next →
    RideBeginsForm true memory_story checked (get_or events i d).command reply ride next →
    Moves (get_or events i d).command reply (memory_counts (disk_in ride)) (memory_schedule (disk_in ride)) (memory_counts (disk_in next)) (memory_schedule (disk_in next)) →
    file ≡ content_of memory_story next → taken ≡ takes (get_or events i d).command choices (memory_story (disk_in ride)).now →
    IsLeftBy (get_or events i d).command choices reply (memory_story (disk_in ride)) (memory_story (disk_in next)) →
    Leads checked all (drop taken choices) events (drop (i + 1) events) (outcomes ++ outcome reply file ∷ []) next
leads_on checked all choices taken events i d outcomes ride next reply file within not_spent next_not_spent known =
    one_more checked all choices taken events (drop (i + 1) events) (get_or events i d) outcomes ride next reply file not_spent next_not_spent
    (subst (λ left. Leads checked all choices events left outcomes ride) (drop_more events i d within) known)

-- after the last event
pub at_the_end : (checked : Bool) (all choices : List ℕ) (events : List Event) (i : ℕ) (outcomes : List Outcome) (ride : Ride Memory) → length events ≤ i →
    Leads checked all choices events (drop i events) outcomes ride → FollowsChoices checked all events outcomes × NoneFull outcomes
at_the_end checked all choices events i outcomes ride past known =
    let end = subst (λ left. Leads checked all choices events left outcomes ride) (drop_all i events past) known in
    subst (λ answers. FollowsChoices checked all events answers × NoneFull answers) (append-nil outcomes) (end.leads [] tt, end.none_full [] tt)
