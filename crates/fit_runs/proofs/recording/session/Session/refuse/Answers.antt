use Rattle.fit_runs.specs.Rides.Turns.{Faulty}
use Rattle.fit_runs.proofs.Reported.Recorded.{prints_one}
use Rattle.fit_runs.proofs.recording.session.Session.refuse.Goals as goal

pub returns-clause-printed : goal.returns-clause-printed
returns-clause-printed g c =
    prints_one _ _ _ (Faulty c.args.self.line c.args.fault) c.tell_line-printed.ensures.line
