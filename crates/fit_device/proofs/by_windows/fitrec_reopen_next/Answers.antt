use Rattle.std.proofs.Common.{◌∙◌, inl, inr, refl, sym, arith}
use Rattle.fit_recorder.specs.Calls.Recovery.{unchanged}
use Rattle.fit_recorder.specs.declared.fault.RecFault.TheVariants.{Device}
use Rattle.fit_device.specs.Windowed.{IsRecovery}
use Rattle.fit_device.proofs.ByWindows.{reopens_on, reopened, short_number}
use Rattle.fit_device.proofs.Leading.{leads_for}
use Rattle.fit_device.proofs.by_windows.fitrec_reopen_next.Goals as goal

pub returns-then-recovery-eq-FINDS : goal.returns-then-recovery-eq-FINDS
returns-then-recovery-eq-FINDS c = reopens_on _ _ _ _ (c.if-not-is_recovery.ensures.0 refl) c.if-recovery-eq-FINDS.true (λ short. let clash = c.if-is_short.ensures.1 short in absurd cc) c.find_body.ensures c.args.handle.now

pub returns-in-Ok : goal.returns-in-Ok
returns-in-Ok c =
    let put = c.put_ride.ensures in
    reopened _ _ _ _ _ c.in-Ok.ride c.in-Ok.files (c.if-not-is_recovery.ensures.0 refl) (λ short. let clash = c.if-is_short.ensures.1 short in absurd cc) c.in-Ok.ensures (put.goes_on _ c.in-Ok.ensures.taken) put.story

pub returns-then-not-is_recovery : goal.returns-then-not-is_recovery
returns-then-not-is_recovery c =
    let no : IsRecovery c.args.recovery.now → ⊥ = λ is. let clash = c.if-not-is_recovery.ensures.1 is in absurd cc in
    record {
      planned = (λ zero. absurd (omega (arith, zero)), λ _. c.clear.ensures.leads _);
      none = λ _. (refl, refl);
      asks = λ is. absurd (no is);
      ended = λ _. no;
      same = λ _. (refl, refl);
      answers = λ is. absurd (no is);
      device = λ device. absurd (omega (arith, device));
      short = λ is. absurd (no is);
      checked = λ zero. absurd (omega (arith, zero));
      any_moment = λ is. absurd (no is);
    }

pub find_body-requires-clause-full : goal.find_body-requires-clause-full
find_body-requires-clause-full c short = let clash = c.if-is_short.ensures.1 short in absurd cc

pub read_ride-requires-clause-full : goal.read_ride-requires-clause-full
read_ride-requires-clause-full c short = let clash = c.if-is_short.ensures.1 short in absurd cc

pub returns-then-is_short : goal.returns-then-is_short
returns-then-is_short c =
    let gave_up = c.fails.ensures in
    let planned = leads_for c.fails.new.plan _ _ _ _ refl (sym gave_up.story) (gave_up.leads _) in
    record {
      planned = (λ zero. absurd (omega (arith, gave_up.code, zero)), λ _. planned);
      none = λ no. absurd (no (c.if-not-is_recovery.ensures.0 refl));
      asks = λ _ wants. absurd (omega (arith, gave_up.code, wants));
      ended = λ _. gave_up.ended;
      same = λ _. (refl, gave_up.story);
      answers = λ _. inr (inr (Device, short_number _ _ gave_up.code, tt));
      device = λ _. inl (c.if-is_short.ensures.0 refl);
      short = λ _ _. gave_up.code;
      checked = λ zero. absurd (omega (arith, gave_up.code, zero));
      any_moment = λ _. unchanged (sym planned.ends ∙ gave_up.story);
    }
