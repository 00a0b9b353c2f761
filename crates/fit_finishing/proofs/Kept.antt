-- What is kept of the cadences and the climb of a list, with one more entry.
use Rattle.std.proofs.Common.{◌≡◌, ℕ, zero, suc, ◌+◌, ◌*◌, ◌^◌, ◌≤◌, cond, List, [], ◌∷◌, ◌++◌, length, Option, Some, None, refl, sym, ap, ◌∙◌, subst, arith, append-nil, length-append}
use Rattle.std.specs.Prelude.{sum, option_to_list, IfSome, nat_lt}
use Rattle.std.specs.List.{filter_map, fold}
use Rattle.std.specs.Option.{option_or}
use Rattle.std.proofs.lemmas.Bool.{lt-ltb}
use Rattle.std.proofs.lemmas.List.Elements.{filter-append}
use Rattle.std.proofs.lemmas.List.Sums.{fold_push, sum_by_push}
use Rattle.fit_activity.specs.declared.recording.entry.Sample.{Sample as AnySample}
use Rattle.fit_activity.specs.declared.recording.entry.Entry.{Entry}
use Rattle.fit_activity.specs.declared.recording.entry.Entry.TheVariants.{Sample, Lap, Pause, Resume, Stop}
use Rattle.fit_activity.specs.Rides.Recording.{Recorded, Added}
use Rattle.fit_activity.specs.Rides.Stretch.{greater_of}
use Rattle.fit_activity.proofs.RunningTotals.Pushed.{filter_map-push, filter_map-none, greatest-push, length-filter_map-le}
use Rattle.fit_finishing.specs.declared.effort.Cadence.{Cadence}
use Rattle.fit_finishing.specs.declared.effort.Effort.{Effort}
use Rattle.fit_finishing.specs.Effort.{cadence_of, altitude_of, cadences, turning, climbed_after, climb_of}
use Rattle.fit_finishing.specs.Private.Effort.{cadence_with, climb_with, risen_in, AreCadences, IsEffort}

-- ---- cadences

turning-push : (values : List ℕ) (n : ℕ) → turning (values ++ n ∷ []) ≡ turning values ++ turning (n ∷ [])
turning-push values n = filter-append (nat_lt 0) values (n ∷ [])

cadence-push : (cadence : Cadence) (values : List ℕ) (n : ℕ) → n ≤ 255 → AreCadences cadence values → AreCadences (cadence_with cadence (Some n)) (values ++ n ∷ [])
cadence-push cadence values zero small are =
    let same : turning (values ++ 0 ∷ []) ≡ turning values = turning-push values 0 ∙ append-nil (turning values) in record {
      total = omega (arith, are.total, ap sum same);
      turning' = omega (arith, are.turning', ap length same);
      most = ap (λ o. greater_of o (Some 0)) are.most ∙ sym (greatest-push values 0);
      small = omega (arith, are.small);
      few = omega (arith, are.few, length-append values (0 ∷ []));
    }
cadence-push cadence values (suc n) small are =
    let above = lt-ltb 0 (suc n) (omega arith) in
    let more : turning (values ++ suc n ∷ []) ≡ turning values ++ suc n ∷ [] = turning-push values (suc n) ∙ ap (λ b. turning values ++ cond b (suc n ∷ []) []) above in
    let one : cond {A = ℕ} (nat_lt 0 (suc n)) 1 0 ≡ 1 = ap (λ b. cond {A = ℕ} b 1 0) above in record {
      total = omega (arith, are.total, ap sum more, sum_by_push (λ (x : ℕ). x) (turning values) (suc n));
      turning' = omega (arith, are.turning', ap length more, length-append (turning values) (suc n ∷ []), one);
      most = ap (λ o. greater_of o (Some (suc n))) are.most ∙ sym (greatest-push values (suc n));
      small = omega (arith, are.small, small, one);
      few = omega (arith, are.few, length-append values (suc n ∷ []), one);
    }

cadences-push : (cadence : Cadence) (values : List ℕ) (o : Option ℕ) → IfSome o (λ n. n ≤ 255) → AreCadences cadence values
    → AreCadences (cadence_with cadence o) (values ++ option_to_list o)
cadences-push cadence values None small are = subst (AreCadences cadence) (sym (append-nil values)) are
cadences-push cadence values (Some n) small are = cadence-push cadence values n small are

-- ---- the climb

climbs-push : (values : List ℕ) (o : Option ℕ) → climb_with (fold climbed_after None values) o ≡ fold climbed_after None (values ++ option_to_list o)
climbs-push values None = ap (fold climbed_after None) (sym (append-nil values))
climbs-push values (Some altitude) = sym (fold_push climbed_after None values altitude)

climb-push : (list : List Recorded) (r : Recorded) → climb_with (climb_of list) (altitude_of r) ≡ climb_of (list ++ r ∷ [])
climb-push list r =
    climbs-push (filter_map altitude_of list) (altitude_of r) ∙ ap (fold climbed_after None) (sym (filter_map-push altitude_of list r))

-- ---- both

abbrev with_sample : Effort → AnySample → Effort
with_sample effort s = record { cadence = cadence_with effort.cadence s.cadence; climb = climb_with effort.climb (option_or s.enhanced_altitude s.altitude) }

pub effort-sample : (effort : Effort) (list : List Recorded) (s : AnySample) → IfSome s.cadence (λ n. n ≤ 255)
    → risen_in (with_sample effort s).climb ≤ risen_in effort.climb + 2 ^ 32 → IsEffort effort list
    → IsEffort (with_sample effort s) (list ++ Added (Sample s) ∷ [])
effort-sample effort list s small bounded is =
    let r = Added (Sample s) in record {
      cadence = subst (AreCadences (with_sample effort s).cadence) (sym (filter_map-push cadence_of list r)) (cadences-push effort.cadence (cadences list) s.cadence small is.cadence);
      climb = ap (λ o. climb_with o (altitude_of r)) is.climb ∙ climb-push list r;
      low = omega (arith, bounded, is.low, length-append list (r ∷ []));
    }

other : (effort : Effort) (list : List Recorded) (r : Recorded) → cadence_of r ≡ None → altitude_of r ≡ None → IsEffort effort list → IsEffort effort (list ++ r ∷ [])
other effort list r no_cadence no_altitude is = record {
  cadence = subst (AreCadences effort.cadence) (sym (filter_map-none cadence_of list r no_cadence)) is.cadence;
  climb = is.climb ∙ ap (fold climbed_after None) (sym (filter_map-none altitude_of list r no_altitude));
  low = omega (arith, is.low, length-append list (r ∷ []));
}

pub effort-other : (effort : Effort) (list : List Recorded) (e : Entry) → ((s : AnySample) → e ≡ Sample s → ⊥) → IsEffort effort list → IsEffort effort (list ++ Added e ∷ [])
effort-other effort list (Sample s) not is = absurd (not s refl)
effort-other effort list (Lap time) not is = other effort list (Added (Lap time)) refl refl is
effort-other effort list (Pause time) not is = other effort list (Added (Pause time)) refl refl is
effort-other effort list (Resume time) not is = other effort list (Added (Resume time)) refl refl is
effort-other effort list (Stop time) not is = other effort list (Added (Stop time)) refl refl is

-- the sums of fewer than 2^32 entries have room for one more
pub few-turning : (effort : Effort) (list : List Recorded) → IsEffort effort list → effort.cadence.turning ≤ length list
few-turning effort list is = omega (arith, is.cadence.few, length-filter_map-le cadence_of list)

pub few-turns : (effort : Effort) (list : List Recorded) → IsEffort effort list → effort.cadence.total ≤ 255 * length list
few-turns effort list is = omega (arith, is.cadence.small, few-turning effort list is)
