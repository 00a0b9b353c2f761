-- The summaries by the numbers that are kept are those of the list.
use Rattle.std.proofs.Common.{◌≡◌, ℕ, ◌+◌, ◌-◌, ◌*◌, ◌/◌, ◌≤◌, Bool, true, false, cond, nat_eq, List, [], length, Option, Some, None, refl, sym, ap, ◌∙◌, arith}
use Rattle.std.specs.Prelude.{sum, unwrap_or, option_map, IfSome, count_by}
use Rattle.std.specs.List.{filter_map, AllByRecursion}
use Rattle.std.proofs.Math.Nat.{div-le_of_le-mul, mul_comm}
use Rattle.std.proofs.lemmas.Bool.{lt-ltb}
use Rattle.fit_activity.specs.declared.totals.summary.Stretch.{Stretch}
use Rattle.fit_activity.specs.declared.totals.summary.LapSummary.{LapSummary}
use Rattle.fit_activity.specs.declared.totals.summary.SessionSummary.{SessionSummary}
use Rattle.fit_activity.specs.declared.totals.summary.ActivitySummary.{ActivitySummary}
use Rattle.fit_activity.specs.declared.recording.start.Sport.{Sport}
use Rattle.fit_activity.specs.declared.recording.start.Sport.TheVariants.{Generic}
use Rattle.fit_activity.specs.declared.totals.clock.Clock.{Clock}
use Rattle.fit_activity.specs.declared.totals.tally.Tally.{Tally}
use Rattle.fit_activity.specs.declared.totals.sums.Sums.{Sums}
use Rattle.fit_activity.specs.Rides.Recording.{Recorded, is_lap, start_time, sport_of}
use Rattle.fit_activity.specs.Rides.Timer.{timer}
use Rattle.fit_activity.specs.Rides.Stretch.{heart_rate_of, power_of, known_distance, end_time, greatest, average, stated_speed, summary, open_stretch, open_from, before_open, lap_at, lap_of, session_of, activity_of}
use Rattle.fit_activity.specs.Rides.RunningTotals.{TotalsState, KeepsTime, IsTally, AreSums, AreTotals}
use Rattle.fit_activity.specs.Private.Step.{in_two_bytes, in_one_byte, average_of, stretch_by, clock_until, more_seconds, lap_by, session_by, activity_by}
use Rattle.fit_activity.proofs.RunningTotals.Pushed.{sum-bounded, greatest-bounded}
use Rattle.fit_activity.proofs.RunningTotals.Timing.{timer-later}
use Rattle.fit_activity.proofs.RunningTotals.Judged.{start_time-kept}

-- the averages and the greatest values fit into their bytes, and are those of the list
in_two-small : (n : ℕ) → n ≤ 65535 → in_two_bytes n ≡ Some n
in_two-small n small = ap (λ b. cond b (Some n) None) (lt-ltb n 65536 (omega (arith, small)))

in_one-small : (o : Option ℕ) → IfSome o (λ n. n ≤ 255) → in_one_byte o ≡ o
in_one-small None small = refl
in_one-small (Some n) small = ap (λ b. cond b (Some n) None) (lt-ltb n 256 (omega (arith, small)))

average-small : (bound : ℕ) (values : List ℕ) → AllByRecursion (λ value. value ≤ bound) values → sum values / length values ≤ bound
average-small bound values all =
    div-le_of_le-mul (length values) (omega (arith, sum-bounded bound values all, mul_comm bound (length values)))

average-within : (bound : ℕ) (values : List ℕ) → AllByRecursion (λ value. value ≤ bound) values → IfSome (average values) (λ n. n ≤ bound)
average-within bound values all =
    let within : (b : Bool) → IfSome (cond b None (Some (sum values / length values))) (λ n. n ≤ bound) =
    λ b. elim b as (λ v. IfSome (cond v None (Some (sum values / length values))) (λ n. n ≤ bound)) [ true ↦ tt | false ↦ average-small bound values all ] in
    within (nat_eq (length values) 0)

average-kept : (tally : Tally) (bound : ℕ) (values : List ℕ) → bound ≤ 65535 → IsTally tally bound values → average_of tally ≡ average values
average-kept tally bound values small is =
    ap (λ (n : ℕ). cond (nat_eq n 0) None (in_two_bytes (tally.total / n))) is.count
    ∙ ap (λ (n : ℕ). cond (nat_eq (length values) 0) None (in_two_bytes (n / length values))) is.total
    ∙ ap (λ o. cond (nat_eq (length values) 0) None o)
    (in_two-small (sum values / length values) (omega (arith, small, average-small bound values is.bounded)))

most-within : (bound : ℕ) (values : List ℕ) → AllByRecursion (λ value. value ≤ bound) values → IfSome (greatest values) (λ n. n ≤ bound)
most-within bound values all = greatest-bounded bound values all

pub stretch-kept : (sums : Sums) (list before inside : List Recorded) (from to : ℕ) → AreSums sums before inside
    → stretch_by sums from to (timer list from to) (known_distance list) ≡ summary list before inside from to
stretch-kept sums list before inside from to are =
    let rates = filter_map heart_rate_of inside in
    let powers = filter_map power_of inside in
    let distance = ap (λ n. option_map (λ d. d - n) (known_distance list)) are.known in
    let speed = ap stated_speed are.speed in
    let rate = ap in_one_byte (average-kept sums.heart_rate 255 rates (omega arith) are.heart_rate) ∙ in_one-small (average rates) (average-within 255 rates are.heart_rate.bounded) in
    let rate_most = ap in_one_byte are.heart_rate.most ∙ in_one-small (greatest rates) (most-within 255 rates are.heart_rate.bounded) in
    let power = average-kept sums.power 65535 powers (omega arith) are.power in
    let power_most = are.power.most in
    cc

abbrev lap_with : ℕ → Stretch → LapSummary
lap_with laps stretch = record { index = laps; stretch = stretch }

abbrev pub activity_from : ℕ → ℕ → ActivitySummary
activity_from time secs = record { time = time; timer = 1000 * secs }

abbrev lap_from : ℕ → Sums → ℕ → ℕ → ℕ → Option ℕ → LapSummary
lap_from laps sums from to secs known = record { index = laps; stretch = stretch_by sums from to secs known }

-- the open lap, by a clock at its end
pub lap-kept : (totals : TotalsState) (clock : Clock) (list : List Recorded) (time : ℕ) → AreTotals totals list
    → clock.lap ≡ open_from list → clock.end ≡ time → clock.lap_timer ≡ timer list clock.lap clock.end
    → lap_by totals clock ≡ lap_at list time
lap-kept totals clock list time are begun ended counted =
    let laps = count_by is_lap list in
    ap (λ (n : ℕ). lap_from n totals.lap clock.lap clock.end clock.lap_timer totals.distance) are.laps
    ∙ ap (λ (n : ℕ). lap_from laps totals.lap clock.lap clock.end n totals.distance) counted
    ∙ ap (λ o. lap_from laps totals.lap clock.lap clock.end (timer list clock.lap clock.end) o) are.distance
    ∙ ap (λ s. lap_with laps s) (stretch-kept totals.lap list (before_open list) (open_stretch list) clock.lap clock.end are.lap)
    ∙ ap (λ (n : ℕ). lap_with laps (summary list (before_open list) (open_stretch list) n clock.end)) begun
    ∙ ap (λ (n : ℕ). lap_at list n) ended

pub lap-now : (totals : TotalsState) (list : List Recorded) → AreTotals totals list → lap_by totals totals.clock ≡ lap_of list
lap-now totals list are = lap-kept totals totals.clock list (end_time list) are are.clock.begun are.clock.last are.clock.lap_counted

-- the same at a later time
pub lap-later : (totals : TotalsState) (list : List Recorded) (time : ℕ) → KeepsTime totals.clock → totals.clock.end ≤ time → AreTotals totals list
    → lap_by totals (clock_until totals.clock time) ≡ lap_at list time
lap-later totals list time keeps later are =
    let clock = totals.clock in
    lap-kept totals (clock_until clock time) list time are are.clock.begun refl
    (ap (λ (n : ℕ). n + more_seconds clock time) are.clock.lap_counted
    ∙ ap (λ b. timer list clock.lap clock.end + cond b (time - clock.end) 0) are.clock.switch
    ∙ sym (timer-later list clock.lap clock.end time are.clock.in_order (omega (arith, keeps.lap_timed)) later))

-- the session of the whole list
abbrev pub session_from : Sport → ℕ → Stretch → SessionSummary
session_from sport laps stretch = record { sport = sport; laps = laps; stretch = stretch }

timer-now : (totals : TotalsState) (list : List Recorded) → AreTotals totals list → totals.clock.timer ≡ timer list (start_time list) (end_time list)
timer-now totals list are =
    are.clock.counted
    ∙ ap (λ (n : ℕ). timer list n totals.clock.end) (start_time-kept totals list are)
    ∙ ap (λ (n : ℕ). timer list (start_time list) n) are.clock.last

pub session-kept : (totals : TotalsState) (list : List Recorded) → AreTotals totals list → session_by totals ≡ session_of list
session-kept totals list are =
    let sport = ap (λ o. unwrap_or (option_map (λ s. s.sport) o) Generic) (sym are.begun) in
    let clock = totals.clock in
    let laps = count_by is_lap list + 1 in
    ap (λ v. session_from v (totals.laps + 1) (stretch_by totals.whole clock.start clock.end clock.timer totals.distance)) sport
    ∙ ap (λ (n : ℕ). session_from (sport_of list) (n + 1) (stretch_by totals.whole clock.start clock.end clock.timer totals.distance)) are.laps
    ∙ ap (λ (n : ℕ). session_from (sport_of list) laps (stretch_by totals.whole n clock.end clock.timer totals.distance)) (start_time-kept totals list are)
    ∙ ap (λ (n : ℕ). session_from (sport_of list) laps (stretch_by totals.whole (start_time list) n clock.timer totals.distance)) are.clock.last
    ∙ ap (λ (n : ℕ). session_from (sport_of list) laps (stretch_by totals.whole (start_time list) (end_time list) n totals.distance)) (timer-now totals list are)
    ∙ ap (λ o. session_from (sport_of list) laps (stretch_by totals.whole (start_time list) (end_time list) (timer list (start_time list) (end_time list)) o)) are.distance
    ∙ ap (λ s. session_from (sport_of list) laps s) (stretch-kept totals.whole list [] list (start_time list) (end_time list) are.whole)

pub activity-kept : (totals : TotalsState) (list : List Recorded) → AreTotals totals list → activity_by totals ≡ activity_of list
activity-kept totals list are =
    ap (λ (n : ℕ). activity_from n totals.clock.timer) are.clock.last
    ∙ ap (λ (n : ℕ). activity_from (end_time list) n) (timer-now totals list are)
