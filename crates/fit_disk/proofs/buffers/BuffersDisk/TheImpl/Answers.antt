use Rattle.std.proofs.Common.{refl}
use Rattle.fit_disk.proofs.buffers.BuffersDisk.TheImpl.Goals as goal

pub write-asks : goal.write-asks
write-asks g c = c.requires refl

pub cut-asks : goal.cut-asks
cut-asks g c = c.requires refl
