-- The timer over a list with one more element at its end.
use Rattle.std.proofs.Common.{◌≡◌, ℕ, zero, suc, ◌+◌, ◌-◌, ◌≤◌, ◌<◌, Bool, true, false, cond, List, [], ◌∷◌, ◌++◌, None, refl, ap, ◌∙◌, arith}
use Rattle.std.specs.Prelude.{unwrap_or}
use Rattle.std.specs.Option.{option_or}
use Rattle.std.proofs.lemmas.Bool.{lt-leb, le-leb}
use Rattle.fit_activity.specs.Rides.Recording.{Recorded, time_of, last_given}
use Rattle.fit_activity.specs.Rides.Timer.{switch_of, switch_by, is_running, runs_now, seconds, timer}
use Rattle.fit_activity.specs.Rides.RunningTotals.{AreBy}
use Rattle.fit_activity.proofs.RunningTotals.Pushed.{last_given-push, All-weaken}

-- before its time, one more element changes nothing
running-before : (list : List Recorded) (r : Recorded) (second : ℕ) → second < time_of r → is_running (list ++ r ∷ []) second ≡ is_running list second
running-before list r second before =
    let off : switch_by second r ≡ None = ap (λ b. cond b (switch_of r) None) (lt-leb (time_of r) second before) in
    ap (λ o. unwrap_or o false) (last_given-push (switch_by second) list r ∙ ap (λ o. option_or o (last_given (switch_by second) list)) off)

switches-by : (list : List Recorded) (second : ℕ) → AreBy second list → last_given (switch_by second) list ≡ last_given switch_of list
switches-by [] second by = refl
switches-by (r ∷ list) second by =
    let on : switch_by second r ≡ switch_of r = ap (λ b. cond b (switch_of r) None) (le-leb (time_of r) second by.0) in
    ap (λ o. option_or o (switch_by second r)) (switches-by list second by.1) ∙ ap (λ o. option_or (last_given switch_of list) o) on

-- from the last time on, the timer runs if it runs after the whole list
running-now : (list : List Recorded) (second : ℕ) → AreBy second list → is_running list second ≡ runs_now list
running-now list second by = ap (λ o. unwrap_or o false) (switches-by list second by)

seconds-same : (p q : ℕ → Bool) (from n : ℕ) → ((k : ℕ) → k < n → p (from + k) ≡ q (from + k)) → seconds p from n ≡ seconds q from n
seconds-same p q from zero same = refl
seconds-same p q from (suc n) same =
    let ih = seconds-same p q from n (λ k below. same k (omega arith)) in
    ap (λ (m : ℕ). m + cond (p (from + n)) 1 0) ih ∙ ap (λ b. seconds q from n + cond b 1 0) (same n (omega arith))

-- the seconds after the first n, if the test has the same value at all of them
seconds-then : (p : ℕ → Bool) (from n k : ℕ) (b : Bool) → ((j : ℕ) → j < k → p (from + (n + j)) ≡ b)
    → seconds p from (n + k) ≡ seconds p from n + cond b k 0
seconds-then p from n zero b alike =
    let e : n + 0 ≡ n = omega arith in
    let none : (b : Bool) → cond {A = ℕ} b zero 0 ≡ 0 = λ b. elim b as (λ v. cond {A = ℕ} v zero 0 ≡ 0) [ true ↦ refl | false ↦ refl ] in
    ap (seconds p from) e ∙ omega (arith, none b)
seconds-then p from n (suc k) b alike =
    let e : n + suc k ≡ suc (n + k) = omega arith in
    let ih = seconds-then p from n k b (λ j below. alike j (omega arith)) in
    let one : (b : Bool) → cond {A = ℕ} b k 0 + cond b 1 0 ≡ cond b (suc k) 0 =
    λ b. elim b as (λ v. cond {A = ℕ} v k 0 + cond v 1 0 ≡ cond v (suc k) 0) [ true ↦ omega arith | false ↦ omega arith ] in
    let last = ap (λ v. cond {A = ℕ} v 1 0) (alike k (omega arith)) in
    ap (seconds p from) e ∙ omega (arith, ih, last, one b)

pub AreBy-later : (first second : ℕ) (list : List Recorded) → first ≤ second → AreBy first list → AreBy second list
AreBy-later first second list le by = All-weaken (λ r. time_of r ≤ first) (λ r. time_of r ≤ second) list (λ r own. omega (arith, own, le)) by

-- the timer up to a later second: as long as up to the end of the list, plus the seconds since if it runs
pub timer-later : (list : List Recorded) (from last to : ℕ) → AreBy last list → from ≤ last → last ≤ to
    → timer list from to ≡ timer list from last + cond (runs_now list) (to - last) 0
timer-later list from last to by begun later =
    let whole : to - from ≡ (last - from) + (to - last) = omega arith in
    ap (seconds (is_running list) from) whole
    ∙ seconds-then (is_running list) from (last - from) (to - last) (runs_now list)
    (λ j below. running-now list (from + (last - from + j)) (AreBy-later last (from + (last - from + j)) list (omega arith) by))

-- the same up to the time of one more element
pub timer-push : (list : List Recorded) (r : Recorded) (from last : ℕ) → AreBy last list → from ≤ last → last ≤ time_of r
    → timer (list ++ r ∷ []) from (time_of r) ≡ timer list from last + cond (runs_now list) (time_of r - last) 0
timer-push list r from last by begun later =
    seconds-same (is_running (list ++ r ∷ [])) (is_running list) from (time_of r - from)
    (λ k below. running-before list r (from + k) (omega arith))
    ∙ timer-later list from last (time_of r) by begun later

pub timer-empty : (list : List Recorded) (second : ℕ) → timer list second second ≡ 0
timer-empty list second = let e : second - second ≡ 0 = omega arith in ap (seconds (is_running list) second) e
