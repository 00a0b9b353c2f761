use Rattle.std.proofs.Common.{◌∙◌, ap, sym}
use Rattle.fit_histories.specs.Rides.Ride.{disk_in}
use Rattle.fit_histories.proofs.Histories.NeverFull.{ended_fills}
use Rattle.fit_histories.proofs.Histories.Riding.{ended_rests}
use Rattle.fit_histories.proofs.ride.Ride.into_disk.Goals as goal

pub returns-in-Riding-clause-rests : goal.returns-in-Riding-clause-rests
returns-in-Riding-clause-rests g c honest before stands =
    let here = rw c.in-Riding.is at stands in
    rw c.into_disk.ensures.disk (ended_rests g.D.Disk.honest g.D.Disk.story before c.in-Riding.recorder here (λ list committed at. rw c.into_disk.ensures.disk at (c.into_disk.ensures.left honest list committed at)))

pub returns-in-Idle-clause-never_fills : goal.returns-in-Idle-clause-never_fills
returns-in-Idle-clause-never_fills g c honest before stands never =
    ended_fills g.D.Disk.honest g.D.Disk.story honest c.args.self before c.in-Idle.disk (sym (ap disk_in c.in-Idle.is)) stands never

pub returns-in-Riding-clause-never_fills : goal.returns-in-Riding-clause-never_fills
returns-in-Riding-clause-never_fills g c honest before stands never =
    ended_fills g.D.Disk.honest g.D.Disk.story honest c.args.self before c.into_disk.result (c.into_disk.ensures.disk ∙ sym (ap disk_in c.in-Riding.is)) stands never
