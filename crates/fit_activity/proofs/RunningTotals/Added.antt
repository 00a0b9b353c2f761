-- Running totals with one more entry are those of the list with the entry at its end.
use Rattle.std.proofs.Common.{◌≡◌, ℕ, suc, ◌+◌, ◌-◌, ◌≤◌, ◌<◌, Bool, true, false, cond, List, [], ◌∷◌, ◌++◌, length, Option, Some, None, refl, sym, ap, ◌∙◌, subst, arith, le_refl, append-nil, not, ◌*◌, ◌^◌}
use Rattle.std.specs.Prelude.{unwrap_or, option_to_list, IfSome, count_by}
use Rattle.std.specs.Option.{option_or}
use Rattle.std.specs.List.{filter_map, suffix_len}
use Rattle.std.proofs.lemmas.List.{length_push, length-drop}
use Rattle.std.proofs.lemmas.Option.{none-some}
use Rattle.std.proofs.lemmas.List.Sums.{sum_by_push}
use Rattle.fit_activity.specs.declared.recording.entry.Sample.{Sample as AnySample}
use Rattle.fit_activity.specs.declared.recording.entry.Entry.{Entry}
use Rattle.fit_activity.specs.declared.recording.entry.Entry.TheVariants.{Sample, Lap, Pause, Resume, Stop}
use Rattle.fit_activity.specs.declared.totals.clock.Clock.{Clock}
use Rattle.fit_activity.specs.declared.recording.start.Start.{Start}
use Rattle.fit_activity.specs.declared.totals.tally.Tally.{Tally}
use Rattle.fit_activity.specs.declared.totals.sums.Sums.{Sums}
use Rattle.fit_activity.specs.Rides.Recording.{Recorded, Started, Added, EntryFits, StartFits, entry_time, time_of, is_lap, is_stop, start_of, last_given}
use Rattle.fit_activity.specs.Rides.Table.{SampleFits}
use Rattle.fit_activity.specs.Rides.Timer.{switch_of, runs_now, timer}
use Rattle.fit_activity.specs.Rides.Stretch.{greater_of, distance_of, heart_rate_of, speed_of, power_of, known_distance, end_time, begins_stretch, begin_of, open_stretch, before_open, greatest}
use Rattle.fit_activity.specs.Rides.Refusal.{start_refusal, has_stopped, Allowed}
use Rattle.fit_activity.specs.Rides.RunningTotals.{TotalsState, KeepsTime, AreBy, IsClock, IsTally, AreSums, AreTotals}
use Rattle.fit_activity.specs.Private.Step.{clock_until, clock_switched, clock_lapped, more_seconds, no_tally, TallyHasRoom, SumsHaveRoom, tally_with, sums_at, sums_with, totals_at, totals_after, refusal_by}
use Rattle.fit_activity.proofs.RunningTotals.Pushed.{last_given-push, All-push, after_last-push, before_last-push, filter_map-push, filter_map-none, length-filter_map-le, greatest-push, greatest-with, sum-bounded}
use Rattle.fit_activity.proofs.RunningTotals.Timing.{AreBy-later, timer-push, timer-empty}
use Rattle.fit_activity.proofs.RunningTotals.Judged.{allowed-push, refusal-kept, passes}

-- the totals of a start are those of its list
no-values : (bound : ℕ) → IsTally no_tally bound []
no-values bound = record { total = refl; count = refl; most = refl; bounded = tt }

sums-begun : (distance : Option ℕ) (before : List Recorded) → unwrap_or distance 0 ≡ unwrap_or (known_distance before) 0 → AreSums (sums_at distance) before []
sums-begun distance before known = record { known = known; speed = refl; heart_rate = no-values 255; power = no-values 65535 }

pub AreTotals-start : (s : Start) → StartFits s → start_refusal s ≡ None → AreTotals (totals_at s) (Started s ∷ [])
AreTotals-start s fits none =
    let empty = timer-empty (Started s ∷ []) s.time in
    let sums : AreSums (sums_at None) [] (Started s ∷ []) = record { known = refl; speed = refl; heart_rate = no-values 255; power = no-values 65535 } in record {
      allowed = (fits, none, tt);
      begun = refl;
      from_start = refl;
      clock = record {
        last = refl;
        in_order = (le_refl s.time, tt);
        switch = refl;
        begun = refl;
        counted = sym empty;
        lap_counted = sym empty;
      };
      stopped = refl;
      laps = refl;
      distance = refl;
      whole = sums;
      lap = sums-begun None [] refl;
    }

-- values with one more, if there is one
tally-push : (tally : Tally) (bound : ℕ) (values : List ℕ) (o : Option ℕ) → IsTally tally bound values → IfSome o (λ value. value ≤ bound)
    → IsTally (tally_with tally o) bound (values ++ option_to_list o)
tally-push tally bound values None is below = subst (IsTally tally bound) (sym (append-nil values)) is
tally-push tally bound values (Some value) is below = record {
  total = ap (λ (n : ℕ). n + value) is.total ∙ sym (sum_by_push (λ n. n) values value);
  count = ap (λ (n : ℕ). n + 1) is.count ∙ sym (length_push values value);
  most = ap (λ o. greater_of o (Some value)) is.most ∙ sym (greatest-push values value);
  bounded = All-push (λ n. n ≤ bound) values value is.bounded below;
}

at_most : (n : ℕ) (o : Option ℕ) → IfSome o (λ value. value < suc n) → IfSome o (λ value. value ≤ n)
at_most n None below = tt
at_most n (Some value) below = omega (arith, below)

-- the sums of a stretch with one more sample, and with an element that has no values for them
sums-sample : (sums : Sums) (before inside : List Recorded) (s : AnySample) → SampleFits s → AreSums sums before inside
    → AreSums (sums_with sums s) before (inside ++ Added (Sample s) ∷ [])
sums-sample sums before inside s fits are =
    let r = Added (Sample s) in record {
      known = are.known;
      speed = ap (λ o. greater_of o (greater_of s.speed s.enhanced_speed)) are.speed
          ∙ sym (greatest-with (filter_map speed_of inside) (greater_of s.speed s.enhanced_speed)) ∙ ap greatest (sym (filter_map-push speed_of inside r));
      heart_rate = subst (IsTally (tally_with sums.heart_rate s.heart_rate) 255) (sym (filter_map-push heart_rate_of inside r))
          (tally-push sums.heart_rate 255 (filter_map heart_rate_of inside) s.heart_rate are.heart_rate (at_most 255 s.heart_rate fits.values.1.1.1.0));
      power = subst (IsTally (tally_with sums.power s.power) 65535) (sym (filter_map-push power_of inside r))
          (tally-push sums.power 65535 (filter_map power_of inside) s.power are.power (at_most 65535 s.power fits.values.1.1.1.1.1.1.1.0));
    }

sums-other : (sums : Sums) (before inside : List Recorded) (r : Recorded) → speed_of r ≡ None → heart_rate_of r ≡ None → power_of r ≡ None
    → AreSums sums before inside → AreSums sums before (inside ++ r ∷ [])
sums-other sums before inside r no_speed no_rate no_power are = record {
  known = are.known;
  speed = are.speed ∙ ap greatest (sym (filter_map-none speed_of inside r no_speed));
  heart_rate = subst (IsTally sums.heart_rate 255) (sym (filter_map-none heart_rate_of inside r no_rate)) are.heart_rate;
  power = subst (IsTally sums.power 65535) (sym (filter_map-none power_of inside r no_power)) are.power;
}

-- if an element begins no stretch, the sums of the open stretch still are those of the open stretch
open-push : (sums : Sums) (list : List Recorded) (r : Recorded) → begins_stretch r ≡ false → AreSums sums (before_open list) (open_stretch list ++ r ∷ [])
    → AreSums sums (before_open (list ++ r ∷ [])) (open_stretch (list ++ r ∷ []))
open-push sums list r stays are =
    let inside = after_last-push begins_stretch list r ∙ ap (λ b. cond b [] (open_stretch list ++ r ∷ [])) stays in
    let before = before_last-push begins_stretch list r ∙ ap (λ b. cond b list (before_open list)) stays in
    subst (λ xs. AreSums sums xs (open_stretch (list ++ r ∷ []))) (sym before)
    (subst (λ xs. AreSums sums (before_open list) xs) (sym inside) are)

-- if an element begins a stretch, the open stretch is empty
open-begun : (distance : Option ℕ) (list : List Recorded) (r : Recorded) → begins_stretch r ≡ true → distance ≡ known_distance list
    → AreSums (sums_at distance) (before_open (list ++ r ∷ [])) (open_stretch (list ++ r ∷ []))
open-begun distance list r begins is =
    let inside = after_last-push begins_stretch list r ∙ ap (λ b. cond b [] (open_stretch list ++ r ∷ [])) begins in
    let before = before_last-push begins_stretch list r ∙ ap (λ b. cond b list (before_open list)) begins in
    let empty = sums-begun distance list (ap (λ o. unwrap_or o 0) is) in
    subst (λ xs. AreSums (sums_at distance) xs (open_stretch (list ++ r ∷ []))) (sym before)
    (subst (λ xs. AreSums (sums_at distance) list xs) (sym inside) empty)

-- the sums of fewer than 2^32 entries have room for one more
tally-room : (tally : Tally) (bound : ℕ) (values : List ℕ) → bound * length values < 2 ^ 60 → length values < 2 ^ 60 → IsTally tally bound values → TallyHasRoom tally
tally-room tally bound values small few is =
    let sum = sum-bounded bound values is.bounded in record {
      total = omega (arith, is.total, sum, small);
      count = omega (arith, is.count, few);
    }

pub sums-room : (sums : Sums) (before inside : List Recorded) → length inside < 2 ^ 32 → AreSums sums before inside → SumsHaveRoom sums
sums-room sums before inside few are =
    let rates = length-filter_map-le heart_rate_of inside in
    let powers = length-filter_map-le power_of inside in record {
      heart_rate = tally-room sums.heart_rate 255 (filter_map heart_rate_of inside) (omega (arith, few, rates)) (omega (arith, few, rates)) are.heart_rate;
      power = tally-room sums.power 65535 (filter_map power_of inside) (omega (arith, few, powers)) (omega (arith, few, powers)) are.power;
    }

pub open-few : (list : List Recorded) → length list < 2 ^ 32 → length (open_stretch list) < 2 ^ 32
open-few list few = omega (arith, few, length-drop (length list - suffix_len (λ r. not (begins_stretch r)) list) list)

-- the clock of a list at the time of one more element
record Reaches (clock : Clock) (list : List Recorded) (r : Recorded) : Type 0 where
  last : time_of r ≡ end_time (list ++ r ∷ [])
  in_order : AreBy (time_of r) (list ++ r ∷ [])
  counted : clock.timer + more_seconds clock (time_of r) ≡ timer (list ++ r ∷ []) clock.start (time_of r)
  lap_counted : clock.lap_timer + more_seconds clock (time_of r) ≡ timer (list ++ r ∷ []) clock.lap (time_of r)

reaches : (clock : Clock) (list : List Recorded) (r : Recorded) → KeepsTime clock → clock.end ≤ time_of r → IsClock clock list → Reaches clock list r
reaches clock list r keeps later is =
    let counted : (from own : ℕ) → from ≤ clock.end → own ≡ timer list from clock.end
    → own + more_seconds clock (time_of r) ≡ timer (list ++ r ∷ []) from (time_of r) =
    λ from own begun same.
    ap (λ b. own + cond b (time_of r - clock.end) 0) is.switch
    ∙ ap (λ (n : ℕ). n + cond (runs_now list) (time_of r - clock.end) 0) same
    ∙ sym (timer-push list r from clock.end is.in_order begun later) in record {
      last = ap (λ o. unwrap_or o 0) (sym (last_given-push (λ x. Some (time_of x)) list r));
      in_order = All-push (λ x. time_of x ≤ time_of r) list r (AreBy-later clock.end (time_of r) list later is.in_order) (omega arith);
      counted = counted clock.start clock.timer (omega (arith, keeps.timed)) is.counted;
      lap_counted = counted clock.lap clock.lap_timer (omega (arith, keeps.lap_timed)) is.lap_counted;
    }

-- the clock after an element that leaves the timer and begins no stretch; that switches the timer; that begins a lap
clock-plain : (clock : Clock) (list : List Recorded) (r : Recorded) → switch_of r ≡ None → begin_of r ≡ None → Reaches clock list r → IsClock clock list
    → IsClock (clock_until clock (time_of r)) (list ++ r ∷ [])
clock-plain clock list r no_switch no_begin to is = record {
  last = to.last;
  in_order = to.in_order;
  switch = is.switch ∙ sym (ap (λ o. unwrap_or o false) (last_given-push switch_of list r ∙ ap (λ o. option_or o (last_given switch_of list)) no_switch));
  begun = is.begun ∙ sym (ap (λ o. unwrap_or o 0) (last_given-push begin_of list r ∙ ap (λ o. option_or o (last_given begin_of list)) no_begin));
  counted = to.counted;
  lap_counted = to.lap_counted;
}

clock-switched : (clock : Clock) (list : List Recorded) (r : Recorded) (runs : Bool) → switch_of r ≡ Some runs → begin_of r ≡ None → Reaches clock list r → IsClock clock list
    → IsClock (clock_switched (clock_until clock (time_of r)) runs) (list ++ r ∷ [])
clock-switched clock list r runs switch no_begin to is = record {
  last = to.last;
  in_order = to.in_order;
  switch = sym (ap (λ o. unwrap_or o false) (last_given-push switch_of list r ∙ ap (λ o. option_or o (last_given switch_of list)) switch));
  begun = is.begun ∙ sym (ap (λ o. unwrap_or o 0) (last_given-push begin_of list r ∙ ap (λ o. option_or o (last_given begin_of list)) no_begin));
  counted = to.counted;
  lap_counted = to.lap_counted;
}

clock-lapped : (clock : Clock) (list : List Recorded) (time : ℕ) → Reaches clock list (Added (Lap time)) → IsClock clock list
    → IsClock (clock_lapped (clock_until clock time)) (list ++ Added (Lap time) ∷ [])
clock-lapped clock list time to is =
    let r = Added (Lap time) in record {
      last = to.last;
      in_order = to.in_order;
      switch = is.switch ∙ sym (ap (λ o. unwrap_or o false) (last_given-push switch_of list r));
      begun = sym (ap (λ o. unwrap_or o 0) (last_given-push begin_of list r));
      counted = to.counted;
      lap_counted = sym (timer-empty (list ++ r ∷ []) time);
    }

start_of-push : (list : List Recorded) (r : Recorded) (start : Start) → start_of list ≡ Some start → start_of (list ++ r ∷ []) ≡ Some start
start_of-push [] r start is = absurd (none-some start is)
start_of-push (Started s ∷ list) r start is = is
start_of-push (Added e ∷ list) r start is = absurd (none-some start is)

-- the number of laps, the last distance known, and whether the list has ended, after one more element
laps-push : (list : List Recorded) (r : Recorded) (laps : ℕ) → laps ≡ count_by is_lap list → laps + cond (is_lap r) 1 0 ≡ count_by is_lap (list ++ r ∷ [])
laps-push list r laps is = ap (λ (n : ℕ). n + cond (is_lap r) 1 0) is ∙ sym (sum_by_push (λ x. cond (is_lap x) 1 0) list r)

same-laps : (list : List Recorded) (r : Recorded) (laps : ℕ) → is_lap r ≡ false → laps ≡ count_by is_lap list → laps ≡ count_by is_lap (list ++ r ∷ [])
same-laps list r laps other is =
    let none : laps + cond {A = ℕ} (is_lap r) 1 0 ≡ laps = ap (λ b. laps + cond {A = ℕ} b 1 0) other ∙ omega arith in
    sym none ∙ laps-push list r laps is

distance-push : (list : List Recorded) (r : Recorded) (known : Option ℕ) → known ≡ known_distance list → option_or (distance_of r) known ≡ known_distance (list ++ r ∷ [])
distance-push list r known is = ap (option_or (distance_of r)) is ∙ sym (last_given-push distance_of list r)

stop-push : (list : List Recorded) (r : Recorded) → is_stop r ≡ has_stopped (list ++ r ∷ [])
stop-push list r = ap (λ o. unwrap_or o false) (sym (last_given-push (λ x. Some (is_stop x)) list r))

-- each kind of entry: first a sample
after-sample : (totals : TotalsState) (list : List Recorded) (s : AnySample) → SampleFits s → KeepsTime totals.clock → totals.clock.end ≤ s.time
    → Allowed (list ++ Added (Sample s) ∷ []) → totals.stopped ≡ false → AreTotals totals list → AreTotals (totals_after totals (Sample s)) (list ++ Added (Sample s) ∷ [])
after-sample totals list s fits keeps later allowed runs are =
    let r = Added (Sample s) in record {
      allowed = allowed;
      begun = start_of-push list r totals.start are.begun;
      from_start = are.from_start;
      clock = clock-plain totals.clock list r refl refl (reaches totals.clock list r keeps later are.clock) are.clock;
      stopped = runs ∙ stop-push list r;
      laps = same-laps list r totals.laps refl are.laps;
      distance = distance-push list r totals.distance are.distance;
      whole = sums-sample totals.whole [] list s fits are.whole;
      lap = open-push (sums_with totals.lap s) list r refl (sums-sample totals.lap (before_open list) (open_stretch list) s fits are.lap);
    }

after-lap : (totals : TotalsState) (list : List Recorded) (time : ℕ) → KeepsTime totals.clock → totals.clock.end ≤ time
    → Allowed (list ++ Added (Lap time) ∷ []) → totals.stopped ≡ false → AreTotals totals list → AreTotals (totals_after totals (Lap time)) (list ++ Added (Lap time) ∷ [])
after-lap totals list time keeps later allowed runs are =
    let r = Added (Lap time) in record {
      allowed = allowed;
      begun = start_of-push list r totals.start are.begun;
      from_start = are.from_start;
      clock = clock-lapped totals.clock list time (reaches totals.clock list r keeps later are.clock) are.clock;
      stopped = runs ∙ stop-push list r;
      laps = laps-push list r totals.laps are.laps;
      distance = distance-push list r totals.distance are.distance;
      whole = sums-other totals.whole [] list r refl refl refl are.whole;
      lap = open-begun totals.distance list r refl are.distance;
    }

-- a pause, a resume and a stop
after-switch : (totals : TotalsState) (list : List Recorded) (e : Entry) (runs stops : Bool) → switch_of (Added e) ≡ Some runs → begins_stretch (Added e) ≡ false
    → is_lap (Added e) ≡ false → is_stop (Added e) ≡ stops → distance_of (Added e) ≡ None → speed_of (Added e) ≡ None → heart_rate_of (Added e) ≡ None → power_of (Added e) ≡ None
    → KeepsTime totals.clock → totals.clock.end ≤ entry_time e → Allowed (list ++ Added e ∷ []) → AreTotals totals list
    → AreTotals (record totals { clock = clock_switched (clock_until totals.clock (entry_time e)) runs; stopped = stops }) (list ++ Added e ∷ [])
after-switch totals list e runs stops switch no_begin no_lap stop no_distance no_speed no_rate no_power keeps later allowed are =
    let r = Added e in record {
      allowed = allowed;
      begun = start_of-push list r totals.start are.begun;
      from_start = are.from_start;
      clock = clock-switched totals.clock list r runs switch (ap (λ b. cond b (Some (entry_time e)) None) no_begin)
          (reaches totals.clock list r keeps later are.clock) are.clock;
      stopped = sym stop ∙ stop-push list r;
      laps = same-laps list r totals.laps no_lap are.laps;
      distance = sym (ap (λ o. option_or o totals.distance) no_distance) ∙ distance-push list r totals.distance are.distance;
      whole = sums-other totals.whole [] list r no_speed no_rate no_power are.whole;
      lap = open-push totals.lap list r no_begin (sums-other totals.lap (before_open list) (open_stretch list) r no_speed no_rate no_power are.lap);
    }

after-entry : (totals : TotalsState) (list : List Recorded) (e : Entry) → EntryFits e → KeepsTime totals.clock → totals.clock.end ≤ entry_time e
    → Allowed (list ++ Added e ∷ []) → totals.stopped ≡ false → AreTotals totals list → AreTotals (totals_after totals e) (list ++ Added e ∷ [])
after-entry totals list (Sample s) fits keeps later allowed runs are = after-sample totals list s fits keeps later allowed runs are
after-entry totals list (Lap time) fits keeps later allowed runs are = after-lap totals list time keeps later allowed runs are
after-entry totals list (Pause time) fits keeps later allowed runs are =
    let stays = after-switch totals list (Pause time) false false refl refl refl refl refl refl refl refl keeps later allowed are in
    subst (λ b. AreTotals (record totals { clock = clock_switched (clock_until totals.clock time) false; stopped = b }) (list ++ Added (Pause time) ∷ [])) (sym runs) stays
after-entry totals list (Resume time) fits keeps later allowed runs are =
    let stays = after-switch totals list (Resume time) true false refl refl refl refl refl refl refl refl keeps later allowed are in
    subst (λ b. AreTotals (record totals { clock = clock_switched (clock_until totals.clock time) true; stopped = b }) (list ++ Added (Resume time) ∷ [])) (sym runs) stays
after-entry totals list (Stop time) fits keeps later allowed runs are =
    after-switch totals list (Stop time) false true refl refl refl refl refl refl refl refl keeps later allowed are

-- the totals of a list with one more entry that is not refused
pub AreTotals-push : (totals : TotalsState) (list : List Recorded) (e : Entry) → EntryFits e → KeepsTime totals.clock → refusal_by totals e ≡ None
    → AreTotals totals list → AreTotals (totals_after totals e) (list ++ Added e ∷ [])
AreTotals-push totals list e fits keeps none are =
    let allows = sym (refusal-kept totals list e are) ∙ none in
    let passed = passes list e allows in
    after-entry totals list e fits keeps (omega (arith, passed.later, are.clock.last)) (allowed-push list e are.allowed fits allows) (are.stopped ∙ passed.runs) are
