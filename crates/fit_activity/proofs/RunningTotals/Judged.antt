-- The refusal of an entry by the numbers that are kept is its refusal by the list.
use Rattle.std.proofs.Common.{◌≡◌, ℕ, ◌+◌, ◌≤◌, Bool, true, false, not, nat_lt, nat_le, List, [], ◌∷◌, ◌++◌, Option, Some, None, refl, sym, ap, ◌∙◌, append-nil, append_assoc}
use Rattle.std.specs.Prelude.{Result, Ok, Err, unwrap_or, option_map, ◌↔◌, ◌==◌, ◌&&◌, ◌||◌, count_by, if◌then◌else◌}
use Rattle.std.specs.Result.{is_err, result_err}
use Rattle.std.specs.Option.{option_or}
use Rattle.std.proofs.lemmas.Bool.{or_parts, ltb-false, true≢false}
use Rattle.std.proofs.lemmas.Option.{none-some}
use Rattle.fit_activity.specs.declared.recording.entry.Entry.{Entry}
use Rattle.fit_activity.specs.declared.recording.refusal.Refusal.{Refusal}
use Rattle.fit_activity.specs.declared.recording.refusal.Refusal.TheVariants.{Stopped, Time, TooLong, TimerStopped, TimerRunning, TooManyLaps, Value, Distance}
use Rattle.fit_activity.specs.Rides.Recording.{Recorded, Started, Added, EntryFits, entry_time, is_lap, start_time}
use Rattle.fit_activity.specs.Rides.Timer.{runs_now}
use Rattle.fit_activity.specs.Rides.Stretch.{end_time, distance_of}
use Rattle.fit_activity.specs.Rides.Refusal.{has_stopped, wants_timer, is_resume, is_less, invalid_field, refusal_of, AllowedAfter, Allowed}
use Rattle.fit_activity.specs.Rides.RunningTotals.{TotalsState, AreTotals}
use Rattle.fit_activity.specs.Private.Step.{refusal_by}

-- the refusal, from the facts on which it depends
abbrev refusal_from : Bool → ℕ → ℕ → Bool → ℕ → Option ℕ → Entry → Option Refusal
refusal_from stopped last start running laps known e =
    if stopped then Some Stopped
    else if nat_lt (entry_time e) last || (entry_time e == 0xFFFFFFFF) then Some Time
    else if nat_lt (start + 4000000) (entry_time e) then Some TooLong
    else if wants_timer e && not running then Some TimerStopped
    else if is_resume e && running then Some TimerRunning
    else if is_lap (Added e) && nat_le 999 laps then Some TooManyLaps
    else option_or (option_map Value (invalid_field e)) (if is_less (distance_of (Added e)) known then Some Distance else None)

pub start_time-kept : (totals : TotalsState) (list : List Recorded) → AreTotals totals list → totals.clock.start ≡ start_time list
start_time-kept totals list are = are.from_start ∙ sym (ap (λ o. unwrap_or (option_map (λ s. s.time) o) 0) are.begun)

pub refusal-kept : (totals : TotalsState) (list : List Recorded) (e : Entry) → AreTotals totals list → refusal_by totals e ≡ refusal_of list e
refusal-kept totals list e are =
    ap (λ b. refusal_from b totals.clock.end totals.clock.start totals.clock.running totals.laps totals.distance e) are.stopped
    ∙ ap (λ (n : ℕ). refusal_from (has_stopped list) n totals.clock.start totals.clock.running totals.laps totals.distance e) are.clock.last
    ∙ ap (λ (n : ℕ). refusal_from (has_stopped list) (end_time list) n totals.clock.running totals.laps totals.distance e) (start_time-kept totals list are)
    ∙ ap (λ b. refusal_from (has_stopped list) (end_time list) (start_time list) b totals.laps totals.distance e) are.clock.switch
    ∙ ap (λ (n : ℕ). refusal_from (has_stopped list) (end_time list) (start_time list) (runs_now list) n totals.distance e) are.laps
    ∙ ap (λ o. refusal_from (has_stopped list) (end_time list) (start_time list) (runs_now list) (count_by is_lap list) o e) are.distance

-- a check is an error if and only if it has a refusal
pub is_err-none : {X E : Type 0} (r : Result X E) → (is_err r ≡ false) ↔ (result_err r ≡ None)
is_err-none (Ok x) = (λ is. refl, λ is. refl)
is_err-none (Err e) = (λ is. absurd (true≢false is), λ is. absurd (none-some e (sym is)))

-- the facts about an entry that is not refused
pub record Passes (list : List Recorded) (e : Entry) : Type 0 where
  pub runs : has_stopped list ≡ false
  pub later : end_time list ≤ entry_time e
  pub reported : (entry_time e == 0xFFFFFFFF) ≡ false
  pub in_time : entry_time e ≤ start_time list + 4000000
  pub valid : invalid_field e ≡ None

pub cond-none : {X : Type 0} (b : Bool) (x : X) (other : Option X) → (if b then Some x else other) ≡ None → (b ≡ false) × (other ≡ None)
cond-none true x other none = absurd (none-some x (sym none))
cond-none false x other none = (refl, none)

pub map-none : {X Y : Type 0} (f : X → Y) (o : Option X) (other : Option Y) → option_or (option_map f o) other ≡ None → o ≡ None
map-none f None other none = refl
map-none f (Some x) other none = absurd (none-some (f x) (sym none))

pub passes : (list : List Recorded) (e : Entry) → refusal_of list e ≡ None → Passes list e
passes list e none =
    let going = cond-none (has_stopped list) Stopped _ none in
    let timely = cond-none (nat_lt (entry_time e) (end_time list) || (entry_time e == 0xFFFFFFFF)) Time _ going.1 in
    let soon = cond-none (nat_lt (start_time list + 4000000) (entry_time e)) TooLong _ timely.1 in
    let moving = cond-none (wants_timer e && not (runs_now list)) TimerStopped _ soon.1 in
    let standing = cond-none (is_resume e && runs_now list) TimerRunning _ moving.1 in
    let few = cond-none (is_lap (Added e) && nat_le 999 (count_by is_lap list)) TooManyLaps _ standing.1 in record {
      runs = going.0;
      later = ltb-false (entry_time e) (end_time list) (or_parts _ _ timely.0).0;
      reported = (or_parts _ _ timely.0).1;
      in_time = ltb-false (start_time list + 4000000) (entry_time e) soon.0;
      valid = map-none Value (invalid_field e) _ few.1;
    }

-- an allowed list with one more entry that is not refused
allowed_after-push : (before list : List Recorded) (e : Entry) → AllowedAfter before list → EntryFits e → refusal_of (before ++ list) e ≡ None
    → AllowedAfter before (list ++ Added e ∷ [])
allowed_after-push before [] e allowed fits none = (fits, ap (λ b. refusal_of b e) (sym (append-nil before)) ∙ none, tt)
allowed_after-push before (Started s ∷ list) e allowed fits none = absurd allowed
allowed_after-push before (Added x ∷ list) e allowed fits none =
    let joined = append_assoc before (Added x ∷ []) list in
    (allowed.0, allowed.1, allowed_after-push (before ++ Added x ∷ []) list e allowed.2 fits (ap (λ b. refusal_of b e) joined ∙ none))

pub allowed-push : (list : List Recorded) (e : Entry) → Allowed list → EntryFits e → refusal_of list e ≡ None → Allowed (list ++ Added e ∷ [])
allowed-push [] e allowed fits none = absurd allowed
allowed-push (Added x ∷ list) e allowed fits none = absurd allowed
allowed-push (Started s ∷ list) e allowed fits none =
    (allowed.0, allowed.1, allowed_after-push (Started s ∷ []) list e allowed.2 fits none)
