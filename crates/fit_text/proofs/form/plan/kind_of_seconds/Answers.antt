use Rattle.std.proofs.Common.{refl}
use Rattle.fit_text.proofs.PlanLemmas.{unsigned_kind}
use Rattle.fit_base.specs.declared.base.BaseType.TheVariants.{Uint32}
use Rattle.fit_text.proofs.form.plan.kind_of_seconds.Goals as goal

pub returns-else-is_time : goal.returns-else-is_time
returns-else-is_time c = (unsigned_kind Uint32 _ c.invalid.ensures tt refl (λ e. cc) (λ e. cc), λ is same. let no = c.if-is_time.false in cc)
