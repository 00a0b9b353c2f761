use Rattle.std.proofs.Common.{◌≡◌, Option, Some, None, refl, sym, ◌∙◌, arith, inl, inr}
use Rattle.fit_grammar.specs.Calls.Table.{definition_in}
use Rattle.fit_mending.specs.declared.clock.Sign.{Sign}
use Rattle.fit_mending.specs.Private.Looking.{sized}
use Rattle.fit_mending.proofs.Steady.{goes_on, one_said, refused_none}
use Rattle.fit_mending.proofs.Trusted.{sound_first}
use Rattle.fit_mending.proofs.skipping.is_followed.Goals as goal

none_of : (said : Option Sign) (sign : Sign) → said ≡ Some sign → said ≡ None → ⊥
none_of said sign is none = cc

pub returns-then-runs_into_unwritten-clause-followed : goal.returns-then-runs_into_unwritten-clause-followed
returns-then-runs_into_unwritten-clause-followed c = λ _. inr (inr (inl (inr (
  sized c.in-Item.item c.in-Item.used,
  c.in-Item.ensures.step.states,
  sym c.runs_into_unwritten.ensures ∙ c.if-runs_into_unwritten.true,
))))

pub returns-in-Some-clause-followed : goal.returns-in-Some-clause-followed
returns-in-Some-clause-followed c = λ _. inr (inr (inr (
  c.args.progress.now,
  inl refl,
  sound_first (definition_in c.args.latest.now) c.args.progress.now c.judge.new.self c.args.rest.now _ c.in-Item.item c.in-Item.used c.judge.result
      c.in-Some.field-0 c.in-Item.ensures.step c.judge.ensures refl c.in-Some.is,
)))

pub returns-in-None-clause-steady : goal.returns-in-None-clause-steady
returns-in-None-clause-steady c = λ has.
    let is = one_said 1 (definition_in c.args.latest.now) _ c.args.progress.now c.judge.new.self c.args.rest.now c.in-Item.item c.in-Item.used
    c.judge.result has (omega arith) c.in-Item.ensures.step c.judge.ensures refl in
    absurd (none_of c.judge.result is.0 is.1 c.in-None.is)

pub returns-in-Refused-clause-steady : goal.returns-in-Refused-clause-steady
returns-in-Refused-clause-steady c = λ has.
    absurd (goes_on 1 (definition_in c.args.latest.now) c.args.progress.now c.args.rest.now c.look.result has (omega arith) c.look.ensures.step.states
    (refused_none c.look.result c.in-Refused.field-0 c.in-Refused.is))
