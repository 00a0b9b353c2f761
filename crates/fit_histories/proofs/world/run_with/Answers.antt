use Rattle.fit_histories.proofs.Simulation.Following.{is_history}
use Rattle.fit_histories.proofs.world.run_with.Goals as goal

pub returns-clause-history : goal.returns-clause-history
returns-clause-history c = let all = c.in_ok-run_for.ensures in rw all.3 (is_history c.args.checked c.args.choices.now c.args.events.now all.0 all.1)
