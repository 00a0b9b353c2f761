use Rattle.std.proofs.Common.{arith, refl}
use Rattle.fit_grammar.specs.Calls.Table.{definition_in}
use Rattle.fit_mending.proofs.Steady.{goes_on, one_said}
use Rattle.fit_mending.proofs.fitting.sign_at_front.Goals as goal

pub returns-in_default-clause-all : goal.returns-in_default-clause-all
returns-in_default-clause-all c = λ has.
    absurd (goes_on 1 (definition_in c.args.latest.now) c.args.progress.now c.args.bytes.now c.look.result has (omega arith)
    c.look.ensures.step.states c.in_default.not-Item)

pub returns-clause-all : goal.returns-clause-all
returns-clause-all c = λ has.
    let is = one_said 1 (definition_in c.args.latest.now) _ c.args.progress.now c.judge.new.self c.args.bytes.now c.in-Item.item c.in-Item.used
    c.judge.result has (omega arith) c.in-Item.ensures.step c.judge.ensures refl in
    (is.0, is.1, is.2)
