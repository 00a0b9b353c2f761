use Rattle.fit_histories.proofs.Simulation.Failing.{fails}
use Rattle.fit_histories.proofs.laws.an_arranged_failure_comes.Goals as goal

pub returns : goal.returns
returns c = fails
