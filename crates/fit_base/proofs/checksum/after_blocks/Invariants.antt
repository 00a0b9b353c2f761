use Rattle.std.proofs.Common.{◌≡◌, ◌*◌, take}
use Rattle.fit_base.specs.Checksum.{crc_from}
use Rattle.fit_base.proofs.checksum.after_blocks.Given as goal

abbrev pub invariant-loop-k : goal.invariant-loop-k
invariant-loop-k l = l.register ≡ crc_from l.fn.register (take (16 * l.k) l.bytes)
