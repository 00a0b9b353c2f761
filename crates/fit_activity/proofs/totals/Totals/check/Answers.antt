use Rattle.std.proofs.Common.{ap, ◌∙◌}
use Rattle.fit_activity.specs.Private.Step.{refusal_by}
use Rattle.fit_activity.proofs.RunningTotals.Judged.{refusal-kept}
use Rattle.fit_activity.proofs.totals.Totals.check.Goals as goal

pub returns-clause-first : goal.returns-clause-first
returns-clause-first c = λ list are.
    c.judge.ensures ∙ ap (refusal_by c.args.self.now) c.in_range.ensures.same ∙ refusal-kept _ list c.args.entry.now are
