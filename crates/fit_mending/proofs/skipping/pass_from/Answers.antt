use Rattle.std.proofs.Common.{◌≡◌, ◌+◌, sym, ap, ◌∙◌, arith}
use Rattle.fit_mending.specs.Form.{comes_from_unwritten}
use Rattle.fit_mending.proofs.skipping.pass_from.Goals as goal

pub returns-then-comes_from_unwritten-clause-ends : goal.returns-then-comes_from_unwritten-clause-ends
returns-then-comes_from_unwritten-clause-ends c = λ trusted.
    let same : c.args.at + 0 ≡ c.args.at = omega arith in
    ap (comes_from_unwritten c.args.bytes.now) same ∙ (sym c.comes_from_unwritten.ensures ∙ c.if-comes_from_unwritten.true)
