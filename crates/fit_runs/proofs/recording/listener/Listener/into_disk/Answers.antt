use Rattle.fit_runs.proofs.Reported.Heard.{broken_off}
use Rattle.fit_runs.proofs.recording.listener.Listener.into_disk.Goals as goal

pub returns : goal.returns
returns g c = λ every old bytes turns before after known.
    broken_off g.D.Disk.honest g.D.Disk.story every old _ bytes turns before after c.args.self known (c.into_disk.ensures every old turns known.so_far)
