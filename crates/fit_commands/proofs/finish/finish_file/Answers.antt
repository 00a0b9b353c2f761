use Rattle.std.proofs.Common.{refl, subst}
use Rattle.fit_finishing.specs.Finished.{IsFinishing}
use Rattle.fit_commands.proofs.finish.finish_file.Goals as goal

pub returns-in-Ok-clause-finished : goal.returns-in-Ok-clause-finished
returns-in-Ok-clause-finished c = (refl, subst (λ v. IsFinishing v c.in-Ok.finishing) c.lend.ensures c.in-Ok.ensures.finishing)
