use Rattle.fit_text.proofs.PlanLemmas.{plans_none}
use Rattle.fit_text.proofs.form.plans.Plans.new.Goals as goal

pub returns-clause-plans : goal.returns-clause-plans
returns-clause-plans c = λ definition_for. plans_none definition_for _ c.no_plans.ensures
