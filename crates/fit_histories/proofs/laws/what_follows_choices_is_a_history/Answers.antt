use Rattle.fit_histories.proofs.Simulation.Following.{is_history}
use Rattle.fit_histories.proofs.laws.what_follows_choices_is_a_history.Goals as goal

pub returns : goal.returns
returns c = is_history
