use Rattle.fit_text.proofs.PlanLemmas.{plans_set, shown_plan_in}
use Rattle.fit_text.proofs.form.plans.Plans.set.Goals as goal

pub returns-clause-plans : goal.returns-clause-plans
returns-clause-plans c = λ definition_for found h.
    plans_set definition_for c.args.local c.args.definition.now c.make_room.new.self c.new-plan.new.columns c.new-plan.new.developer c.new-plan.result
    c.from.result _ _ c.from.ensures found
    (shown_plan_in c.make_room.new.self.empty c.make_room.new.self.utc c.args.definition.now c.shown_in-definition.result c.new-plan.result
    c.new-plan.new.columns.items c.new-plan.new.developer.items (rw c.make_room.ensures.empty c.shown_in-definition.ensures) c.new-plan.ensures.plan) c.new-plan.ensures.after.1 c.new-plan.ensures.developer
    (c.make_room.ensures.plans definition_for h)
