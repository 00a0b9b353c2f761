use Rattle.fit_plan.proofs.Lending.{no_failure}
use Rattle.fit_plan.proofs.laws.what_is_lent_is_read.Goals as goal

pub returns : goal.returns
returns c = λ most old new result whole few ran same. no_failure most _ old new whole few ran same
