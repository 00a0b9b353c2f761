use Rattle.std.proofs.Common.{ℕ, ◌≡◌, ◌*◌, Bool, true, false, List, Option, sym, subst, ◌∙◌, arith, refl}
use Rattle.std.proofs.lemmas.Bool.{leb-true}
use Rattle.fit_grammar.specs.Calls.Table.{definition_in}
use Rattle.fit_grammar.specs.declared.definition.Definition.{Definition}
use Rattle.fit_grammar.specs.declared.item.Item.{Item as ReadItem}
use Rattle.fit_grammar.specs.declared.item.Step.TheVariants.{Item, NeedMore}
use Rattle.fit_mending.specs.declared.progress.Progress.{Progress}
use Rattle.fit_mending.specs.Steady.{HasSound, HasSteady}
use Rattle.fit_mending.proofs.Trusted.{gap_later, sound_any, sound_asked, sound_first}
use Rattle.fit_mending.proofs.Steady.{begins_first, counts_one, goes_on, looks_few, looks_has, looks_more, never_none, refused_none}
use Rattle.fit_mending.proofs.trial.follows.Goals as goal
use Rattle.fit_mending.proofs.trial.follows.Goals.{then-ahead-need-2-via-then-ahead-need-2, then-ahead-need-2-via-else-ahead-need-2+then-ahead-gt-MOST_DEFINITIONS}

both : (b : Bool) → b ≡ true → b ≡ false → ⊥
both b is isnt = cc

needs : (item : ReadItem) (used : ℕ) → NeedMore ≡ Item item used → ⊥
needs item used is = cc

pub returns-then-not-may_begin-clause-all : goal.returns-then-not-may_begin-clause-all
returns-then-not-may_begin-clause-all c = λ signs enough has.
    absurd (both c.may_begin.result
    (c.may_begin.ensures.is ∙ begins_first (32 * signs) (definition_in c.args.latest.now) c.args.progress.now c.args.bytes.now has (omega (arith, enough.some)))
    c.if-not-may_begin.true)

pub returns-in-NeedMore-clause-all : goal.returns-in-NeedMore-clause-all
returns-in-NeedMore-clause-all c = λ signs enough has.
    let on = c.loop-count.invariant.2 signs enough
    (subst (λ (t : List (Option Definition)). HasSteady (32 * signs) (definition_in t) c.args.progress.now c.args.bytes.now) (sym c.again-own.ensures) has) in
    absurd (goes_on 1 (definition_in c.loop-count.own) c.loop-count.later c.loop-count.rest.now c.look.result
    (looks_has signs (definition_in c.loop-count.own) c.loop-count.later c.loop-count.rest.now c.loop-count.count c.loop-count.ahead on)
    (omega arith) c.look.ensures.step.states (λ item used is. needs item used (sym c.in-NeedMore.is ∙ is)))

pub loop-count-preserved-in-Some-after_gap : goal.loop-count-preserved-in-Some-after_gap
loop-count-preserved-in-Some-after_gap c = (
  omega (arith, c.loop-count.invariant.0),
  omega (arith, c.loop-count.invariant.1),
  λ signs enough has.
      absurd (goes_on 1 (definition_in c.loop-count.own) c.loop-count.later c.loop-count.rest.now c.look.result
      (looks_has signs (definition_in c.loop-count.own) c.loop-count.later c.loop-count.rest.now c.loop-count.count c.loop-count.ahead
      (c.loop-count.invariant.2 signs enough has)) (omega arith) c.look.ensures.step.states (refused_none c.look.result _ c.in-Refused.is)),
  λ some. gap_later c.loop-count.own c.again-own.result c.loop-count.later c.args.progress.now c.loop-count.rest.now c.args.bytes.now
      c.loop-count.ahead c.loop-count.count c.loop-count.invariant.3 c.loop-count.invariant.4 c.in-Some-after_gap.ensures.some,
  λ first. absurd (omega (arith, first)),
  (omega arith, omega arith, omega arith),
)

pub returns-in-None-clause-all : goal.returns-in-None-clause-all
returns-in-None-clause-all c = λ signs enough has.
    let on = c.loop-count.invariant.2 signs enough
    (subst (λ (t : List (Option Definition)). HasSteady (32 * signs) (definition_in t) c.args.progress.now c.args.bytes.now) (sym c.again-own.ensures) has) in
    absurd (goes_on 1 (definition_in c.loop-count.own) c.loop-count.later c.loop-count.rest.now c.look.result
    (looks_has signs (definition_in c.loop-count.own) c.loop-count.later c.loop-count.rest.now c.loop-count.count c.loop-count.ahead on)
    (omega arith) c.look.ensures.step.states (refused_none c.look.result _ c.in-Refused.is))

pub returns-in_default-clause-all : goal.returns-in_default-clause-all
returns-in_default-clause-all c = λ signs enough has.
    let on = c.loop-count.invariant.2 signs enough
    (subst (λ (t : List (Option Definition)). HasSteady (32 * signs) (definition_in t) c.args.progress.now c.args.bytes.now) (sym c.again-own.ensures) has) in
    absurd (never_none signs c.args.need.now (definition_in c.loop-count.own) c.loop-count.later c.judge.new.self c.loop-count.rest.now
    c.loop-count.count c.loop-count.ahead c.in-Item.item c.in-Item.used c.judge.result c.split_at.result.0.now enough on c.in-Item.ensures.step
    c.judge.ensures c.split_at.ensures.front c.in_default.not-Some)

pub returns-then-ahead-need-2-clause-all : goal.returns-then-ahead-need-2-clause-all
returns-then-ahead-need-2-clause-all c = λ signs enough has.
    let on = c.loop-count.invariant.2 signs enough
    (subst (λ (t : List (Option Definition)). HasSteady (32 * signs) (definition_in t) c.args.progress.now c.args.bytes.now) (sym c.again-own.ensures) has) in
    let more = looks_more signs c.args.need.now (definition_in c.loop-count.own) _ c.loop-count.later c.judge.new.self c.loop-count.rest.now
    c.split_at.result.1.now c.loop-count.count c.loop-count.ahead c.with-ahead.result c.is_definition.result c.in-Item.item c.in-Item.used
    c.judge.result c.in-Some.sign c.split_at.result.0.now enough on c.in-Item.ensures.step c.judge.ensures c.split_at.ensures.front
    c.split_at.ensures.back refl c.in-Some.is c.with-ahead.ensures in
    absurd (elim c.then-ahead-need-2.branch [
      | then-ahead-need-2-via-then-ahead-need-2 w ↦ omega (arith, more.idle, enough.idle, w.if-ahead-need-2.true)
      | then-ahead-need-2-via-else-ahead-need-2+then-ahead-gt-MOST_DEFINITIONS w ↦ omega (arith, more.definitions, w.if-ahead-gt-MOST_DEFINITIONS.true)
    ])

pub loop-count-preserved : goal.loop-count-preserved
loop-count-preserved c =
    let counts = counts_one c.loop-count.ahead c.with-ahead.result c.in-Some.sign c.is_definition.result c.args.need.now c.with-ahead.ensures in (
      omega (arith, counts.0, c.loop-count.invariant.0),
      omega (arith, counts.1, c.loop-count.invariant.1),
      λ signs enough has.
          let more = looks_more signs c.args.need.now (definition_in c.loop-count.own) (definition_in c.take_over.new.latest) c.loop-count.later
          c.judge.new.self c.loop-count.rest.now c.split_at.result.1.now c.loop-count.count c.loop-count.ahead c.with-ahead.result
          c.is_definition.result c.in-Item.item c.in-Item.used c.judge.result c.in-Some.sign c.split_at.result.0.now enough
          (c.loop-count.invariant.2 signs enough has) c.in-Item.ensures.step c.judge.ensures c.split_at.ensures.front c.split_at.ensures.back
          c.take_over.ensures c.in-Some.is c.with-ahead.ensures in
          more.more (omega (arith, c.if-ahead-need.false)),
      λ some. sound_any c.loop-count.own c.again-own.result c.loop-count.later c.args.progress.now c.loop-count.rest.now c.args.bytes.now
          c.loop-count.ahead c.loop-count.count c.loop-count.invariant.3 c.loop-count.invariant.4
          (sound_first (definition_in c.loop-count.own) c.loop-count.later c.judge.new.self c.loop-count.rest.now c.split_at.result.0.now
          c.in-Item.item c.in-Item.used c.judge.result c.in-Some.sign c.in-Item.ensures.step c.judge.ensures c.split_at.ensures.front
          c.in-Some.is),
      λ first. absurd (omega (arith, first)),
      (omega arith, omega arith, omega arith),
    )

at_start : (own latest : List (Option Definition)) (p : Progress) (bytes : List ℕ) → own ≡ latest → HasSound (definition_in own) p bytes
    → HasSound (definition_in latest) p bytes
at_start own latest p bytes e has = subst (λ (o : List (Option Definition)). HasSound (definition_in o) p bytes) e has

pub returns-in-NeedMore-clause-some : goal.returns-in-NeedMore-clause-some
returns-in-NeedMore-clause-some c = λ asks is.
    at_start c.again-own.result c.args.latest.now c.args.progress.now c.args.bytes.now c.again-own.ensures
    (sound_asked c.loop-count.own c.again-own.result c.loop-count.later c.args.progress.now c.loop-count.rest.now c.args.bytes.now
    c.loop-count.ahead c.loop-count.count c.args.need.now.at_end c.loop-count.invariant.3 c.loop-count.invariant.4 asks.at_end
    (search (arith, is)))

pub returns-in-None-clause-some : goal.returns-in-None-clause-some
returns-in-None-clause-some c = λ asks is.
    at_start c.again-own.result c.args.latest.now c.args.progress.now c.args.bytes.now c.again-own.ensures
    (sound_asked c.loop-count.own c.again-own.result c.loop-count.later c.args.progress.now c.loop-count.rest.now c.args.bytes.now
    c.loop-count.ahead c.loop-count.count c.args.need.now.at_fault c.loop-count.invariant.3 c.loop-count.invariant.4 asks.at_fault
    (search (arith, is)))

pub returns-in_default-clause-some : goal.returns-in_default-clause-some
returns-in_default-clause-some c = λ asks is.
    at_start c.again-own.result c.args.latest.now c.args.progress.now c.args.bytes.now c.again-own.ensures
    (sound_asked c.loop-count.own c.again-own.result c.loop-count.later c.args.progress.now c.loop-count.rest.now c.args.bytes.now
    c.loop-count.ahead c.loop-count.count c.args.need.now.at_fault c.loop-count.invariant.3 c.loop-count.invariant.4 asks.at_fault
    (leb-true c.args.need.now.at_fault c.loop-count.ahead.worth is))

pub returns-then-ahead-need-clause-some : goal.returns-then-ahead-need-clause-some
returns-then-ahead-need-clause-some c = λ asks is.
    at_start c.again-own.result c.args.latest.now c.args.progress.now c.args.bytes.now c.again-own.ensures
    (sound_any c.loop-count.own c.again-own.result c.loop-count.later c.args.progress.now c.loop-count.rest.now c.args.bytes.now
    c.loop-count.ahead c.loop-count.count c.loop-count.invariant.3 c.loop-count.invariant.4
    (sound_first (definition_in c.loop-count.own) c.loop-count.later c.judge.new.self c.loop-count.rest.now c.split_at.result.0.now
    c.in-Item.item c.in-Item.used c.judge.result c.in-Some.sign c.in-Item.ensures.step c.judge.ensures c.split_at.ensures.front
    c.in-Some.is))

pub returns-clause-all : goal.returns-clause-all
returns-clause-all c = λ signs enough has.
    let on = c.loop-count.invariant.2 signs enough
    (subst (λ (t : List (Option Definition)). HasSteady (32 * signs) (definition_in t) c.args.progress.now c.args.bytes.now) (sym c.again-own.ensures) has) in
    absurd (looks_few signs c.args.need.now (definition_in c.loop-count.own) c.loop-count.later c.loop-count.rest.now c.loop-count.count
    c.loop-count.ahead enough on (omega (arith, c.loop-count-test.false)))
