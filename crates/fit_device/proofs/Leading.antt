-- A plan that leads from one story to another leads from and to equal ones.
use Rattle.std.proofs.Common.{◌≡◌, ◌∙◌, subst}
use Rattle.fit_device.specs.declared.plan.DevicePlan.{DevicePlan}
use Rattle.fit_device.specs.Planned.{Leads}
use Rattle.fit_disk.specs.Story.{Story}
use Rattle.fit_disk.proofs.Numbers.{same_story}
use Rattle.fit_disk.specs.Numbers.{numbers_of}
use Rattle.fit_plan.specs.declared.plan.Plan.{Plan}
use Rattle.fit_plan.specs.Plan.{plan_since}

pub leads_for : (plan : DevicePlan) (before after old new : Story) → before ≡ old → after ≡ new → Leads plan before after → Leads plan old new
leads_for plan before after old new olds news leads =
    subst (λ (story : Story). Leads plan old story) news (subst (λ (story : Story). Leads plan story after) olds leads)

-- the calls that were planned since the plan began
pub leads_since : (plan : DevicePlan) (before after : Plan) (old later new : Story) → plan_since before ≡ old
    → numbers_of (plan_since after) ≡ numbers_of (plan_since before) → later ≡ new → Leads plan (plan_since after) later → Leads plan old new
leads_since plan before after old later new since same news leads =
    leads_for plan (plan_since after) later old new (same_story _ _ same ∙ since) news leads
