-- A start is not done if one of its calls is arranged to fail: for the law.
use Rattle.std.proofs.Common.{◌≡◌, ◌+◌, ◌≤◌, ◌^◌, ℕ, true, nat_lt, Bool, if◌then◌else◌, None, Some, Option, refl, sym, ap, subst, ◌∙◌, true≢false, arith}
use Rattle.std.proofs.lemmas.Bool.{lt-ltb}
use Rattle.fit_activity.specs.declared.recording.start.Start.{Start}
use Rattle.fit_activity.specs.Rides.Refusal.{start_refusal}
use Rattle.fit_disk.specs.Counts.{Counts, Schedule, FailedAsPlanned, call_number, failing_at, no_calls, unplanned}
use Rattle.fit_recorder.specs.declared.fault.RecFault.TheVariants as faults
use Rattle.fit_histories.specs.declared.command.Command.{Command}
use Rattle.fit_histories.specs.declared.command.Command.TheVariants as commands
use Rattle.fit_histories.specs.declared.reply.Reply.TheVariants as replies
use Rattle.fit_histories.specs.Histories.Table.{History, Outcome, Done, Fault, Step, StartStep, at_first}
use Rattle.fit_histories.specs.Rides.Standing.{IsCounted, reply_in}
use Rattle.fit_histories.specs.Simulation.Arranging.{Moves}
use Rattle.fit_histories.specs.Simulation.Failing.{FailsAsArranged}
use Rattle.fit_histories.proofs.Simulation.Counts.{failures_ordered, one_there, without_cut}

-- the k-th call of all is planned to fail, and no other
abbrev planned : ℕ → Schedule
planned k = without_cut (Some k) no_calls

-- eleven calls or more do not all go well if one of the first eleven is planned to fail
not_all : (k : ℕ) (counts : Counts) → 1 ≤ k → k ≤ 11 → 11 ≤ counts.calls → counts.failed ≡ 0 → FailedAsPlanned counts (planned k) → ⊥
not_all k counts first within made none planned_so =
    let one = one_there k no_calls (omega arith) in
    let more = failures_ordered (planned k) k counts.calls (omega arith) in
    omega (arith, one, more, none, planned_so)

small : (k : ℕ) → k ≤ 11 → call_number 0 k ≡ Some k
small k within =
    let low : nat_lt (0 + k) (2 ^ 64) ≡ true = lt-ltb (0 + k) (2 ^ 64) (omega arith) in
    let same : 0 + k ≡ k = omega arith in
    ap (λ (b : Bool). if b then Some (0 + k) else None) low ∙ ap Some same

module _ (k : ℕ) (start : Start) (old new : Counts) (schedule new_schedule : Schedule) where
  not_done : 1 ≤ k → k ≤ 11 → old ≡ no_calls → schedule ≡ failing_at k no_calls (unplanned no_calls) → IsCounted (commands.Start start) replies.Done old new → new_schedule ≡ schedule
      → FailedAsPlanned new new_schedule → ⊥
  not_done first within none planned_is counted same planned_so =
      let by_plan : new_schedule ≡ planned k = same ∙ planned_is ∙ ap (λ (fail : Option ℕ). without_cut fail no_calls) (small k within) in
      let calls = ap (λ (c : Counts). c.calls) none in
      let failed = ap (λ (c : Counts). c.failed) none in
      not_all k new first within (omega (arith, counted.fewest, calls)) (counted.went (λ device. absurd cc) ∙ failed) (subst (FailedAsPlanned new) by_plan planned_so)

second_fails : (start : Start) (second : Outcome) (after : History) → start_refusal start ≡ None → StartStep at_first start second after → (second ≡ Done → ⊥) → second ≡ Fault faults.Device
second_fails start Done after allowed step other = absurd (other refl)
second_fails start (Fault (faults.Refused refusal)) after allowed step other = let clash : None ≡ Some refusal = sym allowed ∙ step.0 in absurd cc
second_fails start (Fault faults.NotEmpty) after allowed step other = absurd (true≢false (sym step.1))
second_fails start (Fault faults.Device) after allowed step other = refl
second_fails start second after allowed step other = absurd step

pub fails : FailsAsArranged
fails checked choices fail begin events k start first second outcomes is_fail low within is_start allowed follows =
    let one = follows.2 in
    let two = follows.3.2 in
    let began = subst (λ (command : Command). Step at_first command first follows.0) is_fail one.step in
    let moved = subst (λ (command : Command). Moves command (reply_in first) no_calls (unplanned no_calls) follows.1.counts follows.1.schedule) is_fail one.moves in
    let started = subst (λ (history : History). StartStep history start second follows.3.0) began.1 (subst (λ (command : Command). Step follows.0 command second follows.3.0) is_start two.step) in
    let moved_on = subst (λ (command : Command). Moves command (reply_in second) follows.1.counts follows.1.schedule follows.3.1.counts follows.3.1.schedule) is_start two.moves in
    second_fails start second follows.3.0 allowed started
    (λ done.
    let counted = subst (λ (outcome : Outcome). IsCounted (commands.Start start) (reply_in outcome) follows.1.counts follows.3.1.counts) done moved_on.0 in
    not_done k start follows.1.counts follows.3.1.counts follows.1.schedule follows.3.1.schedule low within moved.1 moved.2 counted moved_on.1 two.as_planned)
