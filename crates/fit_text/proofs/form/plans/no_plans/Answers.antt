use Rattle.fit_text.proofs.PlanLemmas.{none_there}
use Rattle.fit_text.proofs.form.plans.no_plans.Goals as goal

pub returns : goal.returns
returns c = λ local. none_there _ local c.default.ensures
