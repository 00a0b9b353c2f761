use Rattle.std.proofs.Common.{rules}
use Rattle.arrayvec.proofs.ArrayVecLemmas.{filter-from_retain}
use Rattle.fit_text.proofs.form.plans.leave_out_empty.Goals as goal

pub returns-clause-fields : goal.returns-clause-fields
returns-clause-fields c = filter-from_retain _ _ _ (λ x b f' y called. search rules) _ _ c.retain.ensures.filtered

pub returns-clause-developer : goal.returns-clause-developer
returns-clause-developer c = filter-from_retain _ _ _ (λ x b f' y called. search rules) _ _ c.retain-2.ensures.filtered
