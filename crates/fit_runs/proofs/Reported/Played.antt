-- The replies so far are steps of a history: for `playing`.
use Rattle.std.proofs.Common.{◌≡◌, ◌<◌, ◌≤◌, ◌+◌, ℕ, Bool, List, [], ◌∷◌, ◌++◌, length, get_or, drop, refl, sym, subst, ◌∙◌, append_assoc, true, false, true≢false}
use Rattle.std.specs.Prelude.{IsTrue}
use Rattle.std.proofs.lemmas.List.{drop_more, drop_all, append-nil, append_cancel_right}
use Rattle.fit_disk.specs.Story.{Story}
use Rattle.fit_recorder.specs.declared.fault.RecFault.TheVariants.{Device}
use Rattle.fit_histories.specs.declared.command.Command.{Command}
use Rattle.fit_histories.specs.declared.command.Command.TheVariants as commands
use Rattle.fit_histories.specs.declared.event.Event.{Event}
use Rattle.fit_histories.specs.declared.reply.Reply.{Reply}
use Rattle.fit_histories.specs.declared.reply.Reply.TheVariants as replies
use Rattle.fit_histories.specs.declared.ride.Ride.{Ride}
use Rattle.fit_histories.specs.declared.ride.Ride.TheVariants as rides
use Rattle.fit_histories.specs.Histories.Claims.{Claim}
use Rattle.fit_histories.specs.Histories.Table.{History, Idle, ended}
use Rattle.fit_runs.specs.Rides.Played.{GoesTo, LeavesAfter, Passes}
use Rattle.fit_histories.specs.Rides.Begun.{BeginsForm, LeavesForm, RideBeginsForm, begun_after, begun_on}
use Rattle.fit_histories.specs.Rides.Moments.{LeavesAtMoments}
use Rattle.fit_histories.specs.Rides.Ride.{disk_in}
use Rattle.fit_histories.specs.Rides.Standing.{StandsIn, TakesStepFrom, LeavesAllowed, content_of}

-- a journal that a start began, after one command more
pub form_on : (checked begun : Bool) (command : Command) (reply : Reply) (old new : Story) → (begun ≡ true → LeavesForm checked old) → BeginsForm checked command reply old new →
    begun_on begun command reply ≡ true → LeavesForm checked new
form_on checked begun (commands.Start start) replies.Done old new before form now = form
form_on checked begun (commands.Start start) replies.Stopped old new before form now = form (before now)
form_on checked begun (commands.Start start) (replies.Recovered summary) old new before form now = form (before now)
form_on checked begun (commands.Start start) (replies.Refused Device) old new before form now = absurd (true≢false (sym now))
form_on checked begun (commands.Start start) (replies.Refused fault) old new before form now = form (before now)
form_on checked begun (commands.Start start) replies.NoRecorder old new before form now = form (before now)
form_on checked begun commands.Erase reply old new before form now = absurd (true≢false (sym now))
form_on checked begun command reply old new before form now = form (before now)

-- one more step
goes_on : (before middle after : History) (old mid new : Story) (event : Event) (reply : Reply) (events : List Event) (replies : List Reply) →
    GoesTo before old events replies middle mid → Passes middle mid event.command reply after new →
    GoesTo before old (events ++ event ∷ []) (replies ++ reply ∷ []) after new
goes_on before middle after old mid new event reply [] [] goes step =
    (after, new, subst (λ story. Passes before story event.command reply after new) goes.1 (subst (λ h. Passes h mid event.command reply after new) goes.0 step), (refl, refl))
goes_on before middle after old mid new event reply (first ∷ events) (stated ∷ replies) goes step =
    (goes.0, goes.1, goes.2, goes_on goes.0 middle after goes.1 mid new event reply events replies goes.3 step)
goes_on before middle after old mid new event reply [] (stated ∷ replies) goes step = absurd goes
goes_on before middle after old mid new event reply (first ∷ events) [] goes step = absurd goes

-- whether the journal is one that a start began, after one event more
begun_more : (begun : Bool) (before middle : History) (old mid : Story) (event : Event) (reply : Reply) (events : List Event) (replies : List Reply) → GoesTo before old events replies middle mid →
    begun_after begun (events ++ event ∷ []) (replies ++ reply ∷ []) ≡ begun_on (begun_after begun events replies) event.command reply
begun_more begun before middle old mid event reply [] [] goes = refl
begun_more begun before middle old mid event reply (first ∷ events) (stated ∷ replies) goes =
    begun_more (begun_on begun first.command stated) goes.0 middle goes.1 mid event reply events replies goes.3
begun_more begun before middle old mid event reply [] (stated ∷ replies) goes = absurd goes
begun_more begun before middle old mid event reply (first ∷ events) [] goes = absurd goes

module _ {D : Type 0} (checked honest : Bool) (story : D → Story) where
  -- the ride is in the state of the history after these replies
  pub record Stood (before : History) (old : Story) (played : List Event) (stated : List Reply) (ride : Ride D) : Type 0 where
    pub after : History
    pub goes : GoesTo before old played stated after (story (disk_in ride))
    pub stands : StandsIn honest story ride after
    pub form : begun_after false played stated ≡ true → LeavesForm checked (story (disk_in ride))

  -- these were the replies to a prefix of the events, from any state that allows the disk as it was
  pub record Rode (old : Story) (events left : List Event) (stated : List Reply) (ride : Ride D) : Type 0 where
    pub played : List Event
    pub begins : events ≡ played ++ left
    pub stood : IsTrue honest → (claims : List Claim) (begun : Bool) → LeavesAllowed (Idle claims begun) old → Stood (Idle claims begun) old played stated ride

  -- before the first event
  pub not_begun : (disk : D) (events : List Event) → Rode (story disk) events events [] (rides.Idle disk)
  not_begun disk events = record {
    played = [];
    begins = refl;
    stood = λ sound claims begun rests. record { after = Idle claims begun; goes = (refl, refl); stands = rests; form = λ never. absurd (true≢false (sym never)) };
  }

  one_more : (old : Story) (events left : List Event) (event : Event) (stated : List Reply) (ride next : Ride D) (reply : Reply) →
      Rode old events (event ∷ left) stated ride →
      (IsTrue honest → (before : History) → StandsIn honest story ride before → TakesStepFrom honest story before event.command reply next) →
      LeavesAtMoments honest story event.command ride next → RideBeginsForm honest story checked event.command reply ride next →
      Rode old events left (stated ++ reply ∷ []) next
  one_more old events left event stated ride next reply known step moments form = record {
    played = known.played ++ event ∷ [];
    begins = known.begins ∙ sym (append_assoc known.played (event ∷ []) left);
    stood = λ sound claims begun rests.
        let stood = known.stood sound claims begun rests in
        let by = step sound stood.after stood.stands in
        record {
          after = by.after;
          goes = goes_on (Idle claims begun) stood.after by.after old (story (disk_in ride)) (story (disk_in next)) event reply known.played stated stood.goes
              (record { file = content_of story next; step = by.step; any_moment = moments sound stood.after stood.stands });
          stands = by.stands;
          form = λ begun_now.
              form_on checked (begun_after false known.played stated) event.command reply (story (disk_in ride)) (story (disk_in next)) stood.form
              (form sound stood.after stood.stands) (sym (begun_more false (Idle claims begun) stood.after old (story (disk_in ride)) event reply known.played stated stood.goes) ∙ begun_now);
        };
  }

  -- one more event
  pub rode_on : (old : Story) (events : List Event) (i : ℕ) (d : Event) (stated : List Reply) (ride next : Ride D) (reply : Reply) →
      i < length events → Rode old events (drop i events) stated ride →
      (IsTrue honest → (before : History) → StandsIn honest story ride before → TakesStepFrom honest story before (get_or events i d).command reply next) →
      LeavesAtMoments honest story (get_or events i d).command ride next → RideBeginsForm honest story checked (get_or events i d).command reply ride next →
      Rode old events (drop (i + 1) events) (stated ++ reply ∷ []) next
  rode_on old events i d stated ride next reply within known =
      one_more old events (drop (i + 1) events) (get_or events i d) stated ride next reply
      (subst (λ left. Rode old events left stated ride) (drop_more events i d within) known)

  -- what the events that were run leave if the ride is ended
  left_of : (old new : Story) (events left : List Event) (stated : List Reply) (ride : Ride D) → (known : Rode old events left stated ride) →
      (IsTrue honest → (before : History) → StandsIn honest story ride before → LeavesAllowed (ended before) new) →
      new ≡ story (disk_in ride) → LeavesAfter checked honest old new known.played stated
  left_of old new events left stated ride known ends same sound claims begun rests =
      let stood = known.stood sound claims begun rests in
      record {
        after = stood.after;
        goes = subst (GoesTo (Idle claims begun) old known.played stated stood.after) (sym same) stood.goes;
        rests = ends sound stood.after stood.stands;
        form = λ begun_now. subst (LeavesForm checked) (sym same) (stood.form begun_now);
      }

  -- after the last event
  pub all_left : (old new : Story) (events : List Event) (i : ℕ) (stated : List Reply) (ride : Ride D) → length events ≤ i →
      Rode old events (drop i events) stated ride → (IsTrue honest → (before : History) → StandsIn honest story ride before → LeavesAllowed (ended before) new) →
      new ≡ story (disk_in ride) → LeavesAfter checked honest old new events stated
  all_left old new events i stated ride past known ends same =
      let end = subst (λ left. Rode old events left stated ride) (drop_all i events past) known in
      let all : events ≡ end.played = end.begins ∙ append-nil end.played in
      subst (λ played. LeavesAfter checked honest old new played stated) (sym all) (left_of old new events [] stated ride end ends same)

  -- after any event, with the events that were run
  pub some_left : (old new : Story) (events left : List Event) (stated : List Reply) (ride : Ride D) → Rode old events left stated ride →
      (IsTrue honest → (before : History) → StandsIn honest story ride before → LeavesAllowed (ended before) new) →
      new ≡ story (disk_in ride) → (played : List Event) → events ≡ played ++ left → LeavesAfter checked honest old new played stated
  some_left old new events left stated ride known ends same played is =
      subst (λ run. LeavesAfter checked honest old new run stated) (append_cancel_right known.played played left (sym known.begins ∙ is))
      (left_of old new events left stated ride known ends same)
