use Rattle.std.proofs.Common.{ap}
use Rattle.fit_runs.proofs.Reported.Recorded.{left_after}
use Rattle.fit_runs.proofs.recording.session.Session.into_disk.Goals as goal

pub returns : goal.returns
returns g c = λ every old turns known. left_after g.D.Disk.honest g.D.Disk.story every old _ turns c.args.self known c.into_disk.ensures.rests (ap g.D.Disk.story c.into_disk.ensures.disk)
