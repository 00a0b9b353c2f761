use Rattle.fit_runs.proofs.Reported.Heard.{nothing_heard}
use Rattle.fit_runs.proofs.recording.listener.Listener.new.Goals as goal

pub returns-clause-heard : goal.returns-clause-heard
returns-clause-heard g c = λ held. nothing_heard g.D.Disk.honest g.D.Disk.story c.args.every _ c.new.result c.new-2.result held c.new.ensures.none c.new.ensures.so_far c.new-2.ensures
