-- The memory disk fails only if that was arranged: for a run of events.
use Rattle.std.proofs.Common.{◌≡◌, ◌⊎◌, inl, inr, ℕ, zero, suc, ◌+◌, ◌-◌, ◌<◌, ◌≤◌, Bool, true, false, ◌||◌, ◌==◌, IsTrue, Option, None, Some, List, refl, sym, ap, subst, ◌∙◌, true≢false, add-zero, add-suc, arith}
use Rattle.std.proofs.lemmas.Bool.{or_parts, or_from, eq-eqb, ne_eqb, eqb-false, cases_lt}
use Rattle.fit_disk.specs.declared.memory.Memory.{Memory}
use Rattle.fit_disk.specs.Counts.{Counts, Schedule, FailedAsPlanned, failures, is_at, last_count, no_calls}
use Rattle.fit_disk.specs.Memory.{memory_counts, memory_schedule, growth_was_refused, is_spent}
use Rattle.fit_recorder.specs.declared.fault.RecFault.TheVariants.{Device}
use Rattle.fit_histories.specs.declared.command.Command.{Command}
use Rattle.fit_histories.specs.declared.command.Command.TheVariants as commands
use Rattle.fit_histories.specs.declared.reply.Reply.{Reply}
use Rattle.fit_histories.specs.declared.reply.Reply.TheVariants as replies
use Rattle.fit_histories.specs.Simulation.Arranging.{IsPast, IsArranged, Moves}
use Rattle.fit_histories.specs.Histories.Arranged.{Arranged, MayFail, broken_off, arranged_after}
use Rattle.fit_histories.specs.Rides.Standing.{IsCounted, outcome}

-- ---- how many of the first calls fail

failures_more : (schedule : Schedule) (n k : ℕ) → failures schedule n ≤ failures schedule (n + k)
failures_more schedule n zero = rw (add-zero n) (omega arith)
failures_more schedule n (suc k) = rw (add-suc n k) (omega (arith, failures_more schedule n k))

pub failures_ordered : (schedule : Schedule) (m n : ℕ) → m ≤ n → failures schedule m ≤ failures schedule n
failures_ordered schedule m n order =
    let same : m + (n - m) ≡ n = omega arith in
    rw same at (failures_more schedule m (n - m))

-- a schedule with at most one call that is planned to fail, and no power cut
abbrev pub without_cut : Option ℕ → Counts → Schedule
without_cut fail since = record { fail = fail; cut = None; since = since }

not_at : (fail : Option ℕ) (calls number : ℕ) → IsPast fail calls → calls < number → is_at fail number ≡ false
not_at None calls number past after = refl
not_at (Some planned) calls number past after = ne_eqb number planned (λ same. omega arith)

-- after the planned call none fails
none_after : (fail : Option ℕ) (since : Counts) (n k : ℕ) → IsPast fail n →
    failures (without_cut fail since) (n + k) ≡ failures (without_cut fail since) n
none_after fail since n zero past = rw (add-zero n) refl
none_after fail since n (suc k) past =
    rw (add-suc n k, not_at fail n (suc (n + k)) past (omega arith)) (omega (arith, none_after fail since n k past))

-- and none fails before it
none_before : (planned : ℕ) (since : Counts) (n : ℕ) → n < planned → failures (without_cut (Some planned) since) n ≡ 0
none_before planned since zero before = refl
none_before planned since (suc n) before =
    rw (ne_eqb (suc n) planned (λ same. omega arith)) (omega (arith, none_before planned since n (omega arith)))

pub one_there : (planned : ℕ) (since : Counts) → 0 < planned → 1 ≤ failures (without_cut (Some planned) since) planned
one_there zero since there = absurd (omega arith)
one_there (suc number) since there = rw (eq-eqb (suc number) (suc number) refl) (omega arith)

no_growth : (fail : Option ℕ) (since : Counts) (old new : ℕ) → IsPast fail old →
    failures (without_cut fail since) new ≤ failures (without_cut fail since) old
no_growth fail since old new past = by_order (cases_lt new old)
  where
    by_order : (new < old) ⊎ (old ≤ new) → failures (without_cut fail since) new ≤ failures (without_cut fail since) old
    by_order (inl fewer) = failures_ordered (without_cut fail since) new old (omega arith)
    by_order (inr more) =
        let same : old + (new - old) ≡ new = omega arith in
        let none = rw same at (none_after fail since old (new - old) past) in
        omega (arith, none)

-- if more calls failed, the planned one was made
grown_past : (fail : Option ℕ) (since : Counts) (old new : ℕ) →
    failures (without_cut fail since) old < failures (without_cut fail since) new → IsPast fail new
grown_past None since old new grown = tt
grown_past (Some planned) since old new grown = by_order (cases_lt new planned)
  where
    by_order : (new < planned) ⊎ (planned ≤ new) → planned ≤ new
    by_order (inl before) = absurd (omega (arith, none_before planned since new before))
    by_order (inr made) = made

-- and it stays made if no fewer calls failed
stays_past : (fail : Option ℕ) (since : Counts) (old new : ℕ) → IsPast fail old →
    failures (without_cut fail since) old ≤ failures (without_cut fail since) new → IsPast fail new
stays_past None since old new past no_fewer = tt
stays_past (Some planned) since old new past no_fewer = by_order (cases_lt new planned)
  where
    by_order : (new < planned) ⊎ (planned ≤ new) → planned ≤ new
    by_order (inl before) =
        absurd (omega (
          arith,
          none_before planned since new before,
          one_there planned since (omega arith),
          failures_ordered (without_cut (Some planned) since) planned old past,
        ))
    by_order (inr made) = made

-- ---- what is arranged after a command

module _ (arranged : Arranged) (schedule : Schedule) (old new : Counts) (is_arranged : IsArranged arranged old schedule)
    (old_as : FailedAsPlanned old schedule) (new_as : FailedAsPlanned new schedule) where
  plain : schedule.cut ≡ None → schedule ≡ without_cut schedule.fail schedule.since
  plain none = let by_cut : Option ℕ → Schedule = λ cut. record { fail = schedule.fail; cut = cut; since = schedule.since } in ap by_cut none

  device_fails : (cut fail : Bool) → arranged.cut ≡ cut → arranged.fail ≡ fail → old.failed < new.failed → IsTrue (cut || fail)
  device_fails true fail cut_is fail_is grown = refl
  device_fails false true cut_is fail_is grown = refl
  device_fails false false cut_is fail_is grown =
      let none = plain (is_arranged.no_cut cut_is) in
      absurd (omega (
        arith,
        no_growth schedule.fail schedule.since old.calls new.calls (is_arranged.no_fail cut_is fail_is),
        subst (λ s. FailedAsPlanned old s) none old_as,
        subst (λ s. FailedAsPlanned new s) none new_as,
      ))

  after_went : new.failed ≡ old.failed → IsArranged arranged new schedule
  after_went same = record {
    no_cut = is_arranged.no_cut;
    no_fail = λ cut_is fail_is.
        let none = plain (is_arranged.no_cut cut_is) in
        let old_plain = subst (λ s. FailedAsPlanned old s) none old_as in
        let new_plain = subst (λ s. FailedAsPlanned new s) none new_as in
        stays_past schedule.fail schedule.since old.calls new.calls (is_arranged.no_fail cut_is fail_is) (omega (arith, old_plain, new_plain));
  }

  after_broken : old.failed < new.failed → IsArranged (record arranged { fail = false }) new schedule
  after_broken grown = record {
    no_cut = is_arranged.no_cut;
    no_fail = λ cut_is fail_is.
        let none = plain (is_arranged.no_cut cut_is) in
        let old_plain = subst (λ s. FailedAsPlanned old s) none old_as in
        let new_plain = subst (λ s. FailedAsPlanned new s) none new_as in
        grown_past schedule.fail schedule.since old.calls new.calls (omega (arith, old_plain, new_plain));
  }

  kept : (command : Command) (reply : Reply) (file : List ℕ) → new.calls < last_count → IsCounted command reply old new →
      MayFail arranged (outcome reply file) × IsArranged (broken_off arranged (outcome reply file)) new schedule
  kept command (replies.Refused Device) file within counted =
      let one = (counted.cause refl).one within in
      let grown : old.failed < new.failed = omega (arith, one) in
      (λ broken. device_fails arranged.cut arranged.fail refl refl grown, after_broken grown)
  kept command reply file within counted = (λ broken. absurd (true≢false (sym broken)), after_went (counted.went (λ same. cc)))

-- while nothing is spent, the calls have failed as planned
pub unspent : (disk : Memory) → is_spent disk ≡ false →
    FailedAsPlanned (memory_counts disk) (memory_schedule disk) × ((memory_counts disk).calls < last_count)
unspent disk spent =
    let parts = or_parts _ _ spent in
    let not_last = eqb-false disk.call_schedule.counts.calls last_count parts.1 in
    (disk.planned parts.0, omega (arith, disk.call_schedule.counts.fits))

-- the device failed only if that was arranged, and the schedule after the command is what is arranged then
pub moved : (arranged : Arranged) (command : Command) (reply : Reply) (file : List ℕ) (old new : Memory) → is_spent old ≡ false →
    is_spent new ≡ false → Moves command reply (memory_counts old) (memory_schedule old) (memory_counts new) (memory_schedule new) →
    IsArranged arranged (memory_counts old) (memory_schedule old) →
    MayFail arranged (outcome reply file) × IsArranged (arranged_after arranged command (outcome reply file)) (memory_counts new) (memory_schedule new)
moved arranged (commands.Fail k) reply file old new old_unspent new_unspent moves is_arranged =
    rw moves.0 (
      λ broken. absurd (true≢false (sym broken)),
      record {
        no_cut = λ cut_is. ap (λ (s : Schedule). s.cut) moves.2 ∙ is_arranged.no_cut cut_is;
        no_fail = λ cut_is fail_is. absurd (true≢false fail_is);
      },
    )
moved arranged (commands.Cut k) reply file old new old_unspent new_unspent moves is_arranged =
    rw moves.0 (
      λ broken. absurd (true≢false (sym broken)),
      record {
        no_cut = λ cut_is. absurd (true≢false cut_is);
        no_fail = λ cut_is fail_is. absurd (true≢false cut_is);
      },
    )
moved arranged commands.Power reply file old new old_unspent new_unspent moves is_arranged =
    rw moves.0 (
      λ broken. absurd (true≢false (sym broken)),
      record {
        no_cut = λ cut_is. ap (λ (s : Schedule). s.cut) moves.2;
        no_fail = λ cut_is fail_is.
            subst (λ (s : Schedule). IsPast s.fail (memory_counts new).calls) (sym moves.2) tt;
      },
    )
moved arranged command reply file old new old_unspent new_unspent moves is_arranged =
    let old_known = unspent old old_unspent in
    let new_known = unspent new new_unspent in
    let new_as = subst (λ s. FailedAsPlanned (memory_counts new) s) moves.1 new_known.0 in
    let known = kept arranged (memory_schedule old) (memory_counts old) (memory_counts new) is_arranged old_known.0 new_as command reply file new_known.1 moves.0 in
    (known.0, subst (λ s. IsArranged (broken_off arranged (outcome reply file)) (memory_counts new) s) (sym moves.1) known.1)

-- before the first call nothing is spent
pub unspent_first : (disk : Memory) → growth_was_refused disk ≡ false → memory_counts disk ≡ no_calls → is_spent disk ≡ false
unspent_first disk refused counts = or_from _ _ refused (ap (λ (c : Counts). c.calls == last_count) counts)
