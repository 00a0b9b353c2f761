use Rattle.std.proofs.Common.{sym, ◌∙◌}
use Rattle.fit_text.proofs.PlanLemmas.{plans_forget}
use Rattle.fit_text.proofs.form.plans.Plans.forget.Goals as goal

pub returns-clause-plans : goal.returns-clause-plans
returns-clause-plans c = λ definition_for d own h. plans_forget definition_for d c.args.self.now c.from.result (c.from.ensures ∙ sym own) h
