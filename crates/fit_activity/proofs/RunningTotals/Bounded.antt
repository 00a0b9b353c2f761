-- In an allowed list no time is more than 4,000,000 s after the start, and no distance is the invalid value.
use Rattle.std.proofs.Common.{◌≡◌, ℕ, zero, suc, ◌+◌, ◌-◌, ◌≤◌, ◌<◌, ◌^◌, Bool, true, false, cond, List, [], ◌∷◌, ◌++◌, Option, Some, None, sym, ap, ◌∙◌, subst, arith, append_assoc, append-nil}
use Rattle.std.specs.Prelude.{unwrap_or, option_map, find, IfSome}
use Rattle.std.specs.Option.{option_or}
use Rattle.std.specs.List.{AllByRecursion}
use Rattle.std.proofs.lemmas.Bool.{eqb-false, or_parts}
use Rattle.fit_base.specs.declared.base.BaseType.TheVariants.{Uint32}
use Rattle.fit_activity.specs.declared.recording.start.Start.{Start}
use Rattle.fit_activity.specs.declared.recording.entry.Sample.{Sample as AnySample}
use Rattle.fit_activity.specs.declared.recording.entry.Entry.{Entry}
use Rattle.fit_activity.specs.declared.recording.entry.Entry.TheVariants.{Sample, Lap, Pause, Resume, Stop}
use Rattle.fit_activity.specs.declared.speaking.profile_field.ProfileField.{ProfileField}
use Rattle.fit_activity.specs.Messages.ProfileField.{profile_field, is_invalid, present}
use Rattle.fit_activity.specs.Messages.ProfileMessage.{sample_options, sample_fields}
use Rattle.fit_activity.specs.Rides.Recording.{Recorded, Started, Added, StartFits, EntryFits, time_of, start_time}
use Rattle.fit_activity.specs.Rides.Table.{SampleFits}
use Rattle.fit_activity.specs.Rides.Timer.{is_running, seconds, timer}
use Rattle.fit_activity.specs.Rides.Stretch.{distance_of, known_distance, end_time}
use Rattle.fit_activity.specs.Rides.Refusal.{start_refusal, invalid_field_of, invalid_field, AllowedAfter}
use Rattle.fit_activity.proofs.RunningTotals.Pushed.{last_given-push, option_or-none}
use Rattle.fit_activity.proofs.RunningTotals.Judged.{cond-none, map-none, passes}

-- a number below the invalid value of four bytes
abbrev pub IsValid : ℕ → Type 0
IsValid value = value < 0xFFFFFFFF

valid-of : (value : ℕ) → value < 2 ^ 32 → (value ≡ 0xFFFFFFFF → ⊥) → IsValid value
valid-of value fits other = omega (arith, fits, other)

-- a sample's distance is valid if no field of the sample is invalid
each-valid : (os : List (Option ProfileField)) → find is_invalid (present os) ≡ None → AllByRecursion (λ o. IfSome o (λ field. is_invalid field ≡ false)) os
each-valid [] none = tt
each-valid (None ∷ os) none = (tt, each-valid os none)
each-valid (Some field ∷ os) none = let valid = cond-none (is_invalid field) field _ none in (valid.0, each-valid os valid.1)

valid-profile_field : (o : Option ℕ) → IfSome o (λ d. d < 2 ^ 32) → IfSome (option_map (profile_field 5 Uint32) o) (λ field. is_invalid field ≡ false) → IfSome o IsValid
valid-profile_field None fits valid = tt
valid-profile_field (Some d) fits valid = valid-of d fits (eqb-false d 0xFFFFFFFF valid)

valid-distance : (s : AnySample) → SampleFits s → invalid_field_of s ≡ None → IfSome s.distance IsValid
valid-distance s fits none =
    let found = map-none (λ (field : ProfileField). field.number) (find is_invalid (sample_fields s)) None (option_or-none (invalid_field_of s) ∙ none) in
    valid-profile_field s.distance fits.values.1.1.1.1.1.0 (each-valid (sample_options s) found).1.1.1.1.1.0

distance-valid : (e : Entry) → EntryFits e → invalid_field e ≡ None → IfSome (distance_of (Added e)) IsValid
distance-valid (Sample s) fits none = valid-distance s fits none
distance-valid (Lap time) fits none = tt
distance-valid (Pause time) fits none = tt
distance-valid (Resume time) fits none = tt
distance-valid (Stop time) fits none = tt

valid-or : (a b : Option ℕ) → IfSome a IsValid → IfSome b IsValid → IfSome (option_or a b) IsValid
valid-or None b valid other = other
valid-or (Some d) b valid other = valid

-- the last time and the last known distance are in bounds
pub record InBounds (list : List Recorded) : Type 0 where
  pub long : end_time list ≤ start_time list + 4000000
  pub distance : IfSome (known_distance list) IsValid

bounds-after : (s : Start) (before list : List Recorded) → InBounds (Started s ∷ before) → AllowedAfter (Started s ∷ before) list
    → InBounds (Started s ∷ before ++ list)
bounds-after s before [] bounds allowed = subst (λ xs. InBounds (Started s ∷ xs)) (sym (append-nil before)) bounds
bounds-after s before (Started t ∷ list) bounds allowed = absurd allowed
bounds-after s before (Added e ∷ list) bounds allowed =
    let passed = passes (Started s ∷ before) e allowed.1 in
    let r = Added e in
    let last = ap (λ (o : Option ℕ). unwrap_or o 0) (last_given-push (λ x. Some (time_of x)) (Started s ∷ before) r) in
    let next : InBounds (Started s ∷ before ++ r ∷ []) = record {
      long = omega (arith, last, passed.in_time);
      distance = subst (λ o. IfSome o IsValid) (sym (last_given-push distance_of (Started s ∷ before) r))
          (valid-or (distance_of r) (known_distance (Started s ∷ before)) (distance-valid e allowed.0 passed.valid) bounds.distance);
    } in
    subst (λ xs. InBounds (Started s ∷ xs)) (append_assoc before (r ∷ []) list) (bounds-after s (before ++ r ∷ []) list next allowed.2)

pub in-bounds : (s : Start) (list : List Recorded) → AllowedAfter (Started s ∷ []) list → InBounds (Started s ∷ list)
in-bounds s list allowed = bounds-after s [] list (record { long = omega arith; distance = tt }) allowed

-- a start's time is valid
pub valid-start : (s : Start) → StartFits s → start_refusal s ≡ None → IsValid s.time
valid-start s fits allowed = valid-of s.time fits.time (eqb-false s.time 0xFFFFFFFF (or_parts _ _ (cond-none _ _ _ allowed).0).1)

-- the timer runs no longer than the time
seconds-le : (test : ℕ → Bool) (from n : ℕ) → seconds test from n ≤ n
seconds-le test from zero = omega arith
seconds-le test from (suc n) =
    let one : (b : Bool) → cond {A = ℕ} b 1 0 ≤ 1 = λ b. elim b as (λ v. cond {A = ℕ} v 1 0 ≤ 1) [ true ↦ omega arith | false ↦ omega arith ] in
    omega (arith, seconds-le test from n, one (test (from + n)))

pub timer-le : (list : List Recorded) (from to : ℕ) → timer list from to ≤ to - from
timer-le list from to = seconds-le (is_running list) from (to - from)
