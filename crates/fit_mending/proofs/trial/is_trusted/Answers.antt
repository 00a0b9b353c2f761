use Rattle.std.proofs.Common.{ℕ, Some, ◌≡◌, ◌↔◌, ◌+◌, ◌<◌, IsTrue, Bool, true, false, List, Option, refl, sym, ap, subst, ◌∙◌, arith}
use Rattle.fit_grammar.specs.declared.definition.Definition.{Definition}
use Rattle.fit_grammar.specs.Calls.Table.{definition_in}
use Rattle.fit_mending.specs.declared.clock.Sign.{Sign}
use Rattle.fit_mending.specs.declared.progress.Progress.{Progress}
use Rattle.fit_mending.specs.Private.Looking.{quiet_if}
use Rattle.fit_mending.specs.Steady.{IsTrusted}
use Rattle.fit_mending.proofs.Steady.{begins_first, goes_on, whole_first}
use Rattle.fit_mending.proofs.Trusted.{quiet_some, stays_has, stays_next, stays_some}
use Rattle.fit_mending.proofs.trial.is_trusted.Goals as goal

both : (b : Bool) → b ≡ true → b ≡ false → ⊥
both b is isnt = cc

none : (own latest : List (Option Definition)) (p : Progress) (bytes : List ℕ) → own ≡ latest → (IsTrusted (definition_in own) p bytes → ⊥)
    → IsTrue false ↔ IsTrusted (definition_in latest) p bytes
none own latest p bytes e never =
    ((λ is. absurd (both false is refl)), (λ t. absurd (never (subst (λ (o : List (Option Definition)). IsTrusted (definition_in o) p bytes) (sym e) t))))

pub returns-then-not-may_begin-clause-is : goal.returns-then-not-may_begin-clause-is
returns-then-not-may_begin-clause-is c = none c.again-own.result c.args.latest.now c.args.progress.now c.args.bytes.now c.again-own.ensures (λ trusted.
    let has = stays_has c.loop-count.count (definition_in c.loop-count.own) c.loop-count.later c.loop-count.quiet c.loop-count.rest.now
    (omega (arith, c.loop-count-test.true)) c.loop-count.invariant.0 (c.loop-count.invariant.1.0 trusted) in
    both c.may_begin.result
    (c.may_begin.ensures.is ∙ begins_first 1 (definition_in c.loop-count.own) c.loop-count.later c.loop-count.rest.now has (omega arith))
    c.if-not-may_begin.true)

pub returns-in_default-clause-is : goal.returns-in_default-clause-is
returns-in_default-clause-is c = none c.again-own.result c.args.latest.now c.args.progress.now c.args.bytes.now c.again-own.ensures (λ trusted.
    let has = stays_has c.loop-count.count (definition_in c.loop-count.own) c.loop-count.later c.loop-count.quiet c.loop-count.rest.now
    (omega (arith, c.loop-count-test.true)) c.loop-count.invariant.0 (c.loop-count.invariant.1.0 trusted) in
    goes_on 1 (definition_in c.loop-count.own) c.loop-count.later c.loop-count.rest.now c.look.result has (omega arith)
    c.look.ensures.step.states c.in_default.not-Item)

pub returns-then-runs_into_unwritten-clause-is : goal.returns-then-runs_into_unwritten-clause-is
returns-then-runs_into_unwritten-clause-is c = none c.again-own.result c.args.latest.now c.args.progress.now c.args.bytes.now c.again-own.ensures (λ trusted.
    let has = stays_has c.loop-count.count (definition_in c.loop-count.own) c.loop-count.later c.loop-count.quiet c.loop-count.rest.now
    (omega (arith, c.loop-count-test.true)) c.loop-count.invariant.0 (c.loop-count.invariant.1.0 trusted) in
    both c.runs_into_unwritten.result c.if-runs_into_unwritten.true
    (c.runs_into_unwritten.ensures ∙ whole_first 1 (definition_in c.loop-count.own) c.loop-count.later c.loop-count.rest.now c.in-Item.item
    c.in-Item.used has (omega arith) c.in-Item.ensures.step))

pub returns-in_default-judge-clause-is : goal.returns-in_default-judge-clause-is
returns-in_default-judge-clause-is c = none c.again-own.result c.args.latest.now c.args.progress.now c.args.bytes.now c.again-own.ensures (λ trusted.
    let is = stays_some c.loop-count.count (definition_in c.loop-count.own) c.loop-count.later c.judge.new.self c.loop-count.quiet
    c.loop-count.rest.now c.split_at.result.0.now c.in-Item.item c.in-Item.used c.judge.result (omega (arith, c.loop-count-test.true))
    c.in-Item.ensures.step c.judge.ensures c.split_at.ensures.front (c.loop-count.invariant.1.0 trusted) in
    c.in_default-judge.not-Some is.0 is.1)

same : (a b : Sign) → Some a ≡ Some b → a ≡ b
same a b e = cc

pub returns-in_default-quiet_with-clause-is : goal.returns-in_default-quiet_with-clause-is
returns-in_default-quiet_with-clause-is c = none c.again-own.result c.args.latest.now c.args.progress.now c.args.bytes.now c.again-own.ensures (λ trusted.
    let is = stays_some c.loop-count.count (definition_in c.loop-count.own) c.loop-count.later c.judge.new.self c.loop-count.quiet
    c.loop-count.rest.now c.split_at.result.0.now c.in-Item.item c.in-Item.used c.judge.result (omega (arith, c.loop-count-test.true))
    c.in-Item.ensures.step c.judge.ensures c.split_at.ensures.front (c.loop-count.invariant.1.0 trusted) in
    c.in_default-quiet_with.not-Some _
    (c.quiet_with.ensures ∙ ap (quiet_if c.loop-count.quiet) (same c.in-Some.sign is.0 (sym c.in-Some.is ∙ is.1)) ∙ is.2))

less : (quiet : ℕ) (sign : Sign) (more : ℕ) → quiet_if quiet sign ≡ Some more → more < 32
less quiet sign more e = let is = quiet_some quiet sign more e in subst (λ (n : ℕ). n < 32) is.1 is.2

pub loop-count-preserved : goal.loop-count-preserved
loop-count-preserved c =
    let next = stays_next c.loop-count.count (c.loop-count.count + 1) (definition_in c.loop-count.own) (definition_in c.take_over.new.latest)
    c.loop-count.later c.judge.new.self c.loop-count.quiet c.in-Some-quiet_with.more c.loop-count.rest.now c.split_at.result.0.now
    c.split_at.result.1.now c.in-Item.item c.in-Item.used c.judge.result c.in-Some.sign (omega (arith, c.loop-count-test.true)) refl
    (sym c.may_begin.ensures.is ∙ c.if-not-may_begin.false) (sym c.runs_into_unwritten.ensures ∙ c.if-runs_into_unwritten.false) c.in-Item.ensures.step c.judge.ensures c.split_at.ensures.front c.split_at.ensures.back
    c.take_over.ensures c.in-Some.is (sym c.quiet_with.ensures ∙ c.in-Some-quiet_with.is) in
    (less c.loop-count.quiet c.in-Some.sign c.in-Some-quiet_with.more (sym c.quiet_with.ensures ∙ c.in-Some-quiet_with.is), ((λ trusted. next.0 (c.loop-count.invariant.1.0 trusted)), (λ stays. c.loop-count.invariant.1.1 (next.1 stays))), (omega arith, omega arith, omega arith))
