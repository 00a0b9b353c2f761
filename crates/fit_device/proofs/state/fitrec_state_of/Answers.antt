use mir.Val.{bool_byte}
use Rattle.std.proofs.Common.{◌≡◌, ℕ, Bool, true, false, refl, sym, ap, ◌∙◌, Option, Some, None, if◌then◌else◌}
use Rattle.std.proofs.lemmas.Bool.{ne_eqb}
use Rattle.std.specs.Prelude.{unwrap_or}
use Rattle.fit_activity.specs.Rides.Frozen.{if_set}
use Rattle.fit_device.proofs.state.fitrec_state_of.Goals as goal
use Rattle.fit_device.proofs.state.fitrec_state_of.Goals.{then-totals-eq1, else-totals-eq1}

flag : (is : Bool) → bool_byte is ≡ (if is then 1 else 0)
flag true = refl
flag false = refl

-- a number whose flag is set, and 0 for any other
given : (flag n : ℕ) (known : Option ℕ) → flag ≡ 1 → if_set flag n ≡ known → n ≡ unwrap_or known 0
given flag n known is same = sym (ap (λ (f : ℕ). unwrap_or (if_set f n) 0) is) ∙ ap (λ (o : Option ℕ). unwrap_or o 0) same

none_given : (flag n : ℕ) (known : Option ℕ) → (flag ≡ 1 → ⊥) → if_set flag n ≡ known → 0 ≡ unwrap_or known 0
none_given flag n known other same =
    sym (ap (λ (is : Bool). unwrap_or (if is then Some n else None) 0) (ne_eqb flag 1 other)) ∙ ap (λ (o : Option ℕ). unwrap_or o 0) same

pub returns : goal.returns
returns c =
    record {
      none = λ no. absurd (no (c.if-not-is_recorder.ensures.0 refl));
      known = λ _. refl;
      stands = λ list handed.
          let are = handed.totals in
          record {
            time = are.clock.last;
            distance = elim c.if-totals-eq1.branch [
              | then-totals-eq1 w ↦ w.state-is ∙ given _ _ _ w.if-totals-eq1.true are.distance
              | else-totals-eq1 w ↦ w.state-is ∙ none_given _ _ _ w.if-totals-eq1.false are.distance
            ];
            laps = are.laps;
            running = c.from-state.ensures ∙ ap bool_byte are.clock.switch ∙ flag _;
            stopped = c.from-state-2.ensures ∙ ap bool_byte are.stopped ∙ flag _;
          };
    }
