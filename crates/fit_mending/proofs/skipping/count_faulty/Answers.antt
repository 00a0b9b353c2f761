use Rattle.std.proofs.Common.{inl, inr, length, min, drop, refl, sym, ap, subst, arith}
use Rattle.std.specs.Prelude.{is_some}
use Rattle.fit_grammar.specs.Calls.Table.{definition_in}
use Rattle.fit_mending.specs.declared.progress.Progress.{Progress}
use Rattle.fit_mending.specs.Steady.{HasSound}
use Rattle.fit_mending.proofs.Reading.{none_both, none_from, none_less}
use Rattle.fit_mending.proofs.skipping.count_faulty.Goals as goal

pub returns-in-Some-next_anew-clause-left : goal.returns-in-Some-next_anew-clause-left
returns-in-Some-next_anew-clause-left c = record {
  begun = inr c.anew.ensures;
  same = λ zero. absurd (omega (arith, zero, c.in-Some-next_anew.ensures.some));
  none = none_less (definition_in c.args.latest.now) c.args.progress.now c.args.bytes.now c.args.from c.in-Some-next_anew.count
      (min 65536 (length c.args.bytes.now)) (c.next_fitting.ensures.none (ap is_some c.in_default.is))
      (omega (arith, c.in-Some-next_anew.ensures.within));
  there = λ from trusted.
      absurd (c.next_fitting.ensures.none (ap is_some c.in_default.is) c.in-Some-next_anew.count
      (omega (arith, from, c.in-Some-next_anew.ensures.some)) c.in-Some-next_anew.ensures.within trusted);
  goes_on = λ less.
      subst (λ (p : Progress). HasSound (definition_in c.args.latest.now) p (drop c.in-Some-next_anew.count c.args.bytes.now)) (sym c.anew.ensures)
      c.in-Some-next_anew.ensures.on;
}

pub returns-in-Some-next_fitting-clause-left : goal.returns-in-Some-next_fitting-clause-left
returns-in-Some-next_fitting-clause-left c =
    let f = definition_in c.args.latest.now in
    let p = c.args.progress.now in
    let bytes = c.args.bytes.now in
    record {
      begun = inl refl;
      same = λ zero. refl;
      none = none_both f p bytes c.args.from (min 65536 (length bytes)) c.in-Some-next_fitting.count
          (c.next_fitting.ensures.none (ap is_some c.in_default.is))
          (none_from f p bytes 65536 c.in-Some-next_fitting.count c.in-Some-next_fitting.ensures.before c.in-Some-next_fitting.ensures.within);
      there = λ from trusted. refl;
      goes_on = λ less. c.in-Some-next_fitting.ensures.on;
    }

pub returns-in-None-clause-left : goal.returns-in-None-clause-left
returns-in-None-clause-left c =
    let f = definition_in c.args.latest.now in
    let p = c.args.progress.now in
    let bytes = c.args.bytes.now in
    record {
      begun = inl refl;
      same = λ zero. refl;
      none = none_both f p bytes c.args.from (min 65536 (length bytes)) (length bytes) (c.next_fitting.ensures.none (ap is_some c.in_default.is))
          (none_from f p bytes 65536 (length bytes)
          (none_less f p bytes 65536 (length bytes) (min (length bytes) (length bytes)) (c.next_fitting-2.ensures.none (ap is_some c.in-None.is))
          (omega arith)) (omega arith));
      there = λ from trusted. refl;
      goes_on = λ less. absurd (omega (arith, less));
    }
