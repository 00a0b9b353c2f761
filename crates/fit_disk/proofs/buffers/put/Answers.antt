use Rattle.fit_disk.proofs.Putting.{put_over}
use Rattle.fit_disk.proofs.buffers.put.Goals as goal

pub returns-clause-content : goal.returns-clause-content
returns-clause-content c =
    rw (c.put_in.ensures.content, c.max.ensures) (put_over c.args.at c.args.len.now c.args.bytes.now c.args.room.now c.requires.fits c.requires.within c.requires.room)
