use Rattle.fit_runs.proofs.Reported.Lost.{loses_last_seconds}
use Rattle.fit_runs.proofs.laws.at_most_the_last_seconds_are_lost.Goals as goal

pub returns : goal.returns
returns c = loses_last_seconds
