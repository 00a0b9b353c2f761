use Rattle.std.proofs.Common.{inl, inr, refl, sym, arith, Err}
use Rattle.fit_recorder.specs.Calls.Recovery.{unchanged}
use Rattle.fit_recorder.specs.declared.fault.RecFault.TheVariants.{Device}
use Rattle.fit_device.specs.Windowed.{IsRecovery}
use Rattle.fit_device.proofs.ByWindows.{goes_on, short_number}
use Rattle.fit_device.proofs.Leading.{leads_for}
use Rattle.fit_device.proofs.by_windows.fitrec_recover_next.Goals as goal

pub returns-then-recovery-eq-FINDS : goal.returns-then-recovery-eq-FINDS
returns-then-recovery-eq-FINDS c = goes_on _ _ _ _ (c.if-not-is_recovery.ensures.0 refl) c.if-recovery-eq-FINDS.true (λ short. let clash = c.if-is_short.ensures.1 short in absurd cc) c.find_body.ensures

pub returns-then-not-is_recovery : goal.returns-then-not-is_recovery
returns-then-not-is_recovery c =
    let no : IsRecovery c.args.recovery.now → ⊥ = λ is. let clash = c.if-not-is_recovery.ensures.1 is in absurd cc in
    record {
      planned = c.clear.ensures.leads _;
      none = λ _. (refl, refl);
      asks = λ is. absurd (no is);
      ended = λ _. no;
      same = λ _. refl;
      answers = λ is. absurd (no is);
      device = λ device. absurd (omega (arith, device));
      short = λ is. absurd (no is);
      checked = λ zero. absurd (omega (arith, zero));
      any_moment = λ is. absurd (no is);
    }

pub find_body-requires-clause-full : goal.find_body-requires-clause-full
find_body-requires-clause-full c short = let clash = c.if-is_short.ensures.1 short in absurd cc

pub read_body-requires-clause-full : goal.read_body-requires-clause-full
read_body-requires-clause-full c short = let clash = c.if-is_short.ensures.1 short in absurd cc

pub returns-then-is_short : goal.returns-then-is_short
returns-then-is_short c =
    let gave_up = c.fails.ensures in
    record {
      planned = leads_for c.fails.new.plan _ _ _ _ refl (sym gave_up.story) (gave_up.leads _);
      none = λ no. absurd (no (c.if-not-is_recovery.ensures.0 refl));
      asks = λ _ wants. absurd (omega (arith, gave_up.code, wants));
      ended = λ _. gave_up.ended;
      same = λ _. gave_up.story;
      answers = λ _. inr (Err Device, short_number _ _ gave_up.code, tt);
      device = λ _. inl (c.if-is_short.ensures.0 refl);
      short = λ _ _. gave_up.code;
      checked = λ zero. absurd (omega (arith, gave_up.code, zero));
      any_moment = λ _. unchanged gave_up.story;
    }
