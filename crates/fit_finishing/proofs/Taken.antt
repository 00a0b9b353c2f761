-- A ride with one more entry, by the answer of its check.
use Rattle.std.proofs.Common.{◌≡◌, ℕ, ◌+◌, true, false, cond, List, [], ◌∷◌, ◌++◌, refl, sym, ap, ◌∙◌, arith}
use Rattle.std.specs.Prelude.{Result, Ok, Err, count_by}
use Rattle.std.specs.Result.{is_err, result_err}
use Rattle.std.specs.Option.{is_none}
use Rattle.std.proofs.lemmas.Bool.{true≢false}
use Rattle.std.proofs.lemmas.List.Sums.{sum_by_push}
use Rattle.fit_activity.specs.declared.recording.entry.Sample.{Sample as AnySample}
use Rattle.fit_activity.specs.declared.recording.entry.Entry.{Entry}
use Rattle.fit_activity.specs.declared.recording.entry.Entry.TheVariants.{Sample, Lap, Pause, Resume, Stop}
use Rattle.fit_activity.specs.declared.recording.refusal.Refusal.{Refusal}
use Rattle.fit_activity.specs.Rides.Recording.{Recorded, Added, is_sample}
use Rattle.fit_activity.specs.Rides.Refusal.{refusal_of}
use Rattle.fit_finishing.specs.Heard.{Heard, added, settled, is_idle, followed_by, with_one_left_out}

-- a check that is an error has a refusal
refused : {X E : Type 0} (r : Result X E) → is_err r ≡ true → is_none (result_err r) ≡ false
refused (Ok x) is = absurd (true≢false (sym is))
refused (Err e) is = refl

passed : {X E : Type 0} (r : Result X E) → is_err r ≡ false → is_none (result_err r) ≡ true
passed (Ok x) is = refl
passed (Err e) is = absurd (true≢false is)

pub added-refused : {X : Type 0} (h : Heard) (e : Entry) (r : Result X Refusal) → is_err r ≡ true → result_err r ≡ refusal_of h.list e → added e h ≡ with_one_left_out h
added-refused h e r is why =
    ap (λ b. cond b (record h { list = h.list ++ Added e ∷ [] }) (with_one_left_out h)) (sym (ap is_none why) ∙ refused r is)

pub added-passed : {X : Type 0} (h : Heard) (e : Entry) (r : Result X Refusal) → is_err r ≡ false → result_err r ≡ refusal_of h.list e → added e h ≡ record h { list = h.list ++ Added e ∷ [] }
added-passed h e r is why =
    ap (λ b. cond b (record h { list = h.list ++ Added e ∷ [] }) (with_one_left_out h)) (sym (ap is_none why) ∙ passed r is)

-- how many samples there are with one more
pub samples-push : (list : List Recorded) (r : Recorded) → count_by is_sample (list ++ r ∷ []) ≡ count_by is_sample list + cond (is_sample r) 1 0
samples-push list r = sum_by_push (λ x. cond (is_sample x) 1 0) list r

pub other-sample : (e : Entry) (n : ℕ) → ((s : AnySample) → e ≡ Sample s → ⊥) → n + cond (is_sample (Added e)) 1 0 ≡ n
other-sample (Sample s) n not = absurd (not s refl)
other-sample (Lap time) n not = omega arith
other-sample (Pause time) n not = omega arith
other-sample (Resume time) n not = omega arith
other-sample (Stop time) n not = omega arith

-- an entry that leaves the ride as it is, and any other
pub idle-followed : (e : Entry) (h : Heard) → is_idle h.list e ≡ true → followed_by e h ≡ h
idle-followed (Sample s) h idle = absurd (true≢false (sym idle))
idle-followed (Lap time) h idle = absurd (true≢false (sym idle))
idle-followed (Pause time) h idle = ap (λ b. cond b h (added (Pause time) (settled h))) idle
idle-followed (Resume time) h idle = ap (λ b. cond b h (added (Resume time) (settled h))) idle
idle-followed (Stop time) h idle = absurd (true≢false (sym idle))

pub other-followed : (e : Entry) (h : Heard) → is_idle h.list e ≡ false → ((time : ℕ) → e ≡ Lap time → ⊥) → followed_by e h ≡ added e (settled h)
other-followed (Sample s) h idle not = refl
other-followed (Lap time) h idle not = absurd (not time refl)
other-followed (Pause time) h idle not = ap (λ b. cond b h (added (Pause time) (settled h))) idle
other-followed (Resume time) h idle not = ap (λ b. cond b h (added (Resume time) (settled h))) idle
other-followed (Stop time) h idle not = refl
