use Rattle.std.proofs.Common.{◌≡◌, ◌*◌, take}
use Rattle.fit_base.specs.Checksum.{crc32_polynomial, register_after}
use Rattle.fit_base.proofs.checksum32.after_blocks.Given as goal

abbrev pub invariant-loop-k : goal.invariant-loop-k
invariant-loop-k l = l.register ≡ register_after crc32_polynomial l.fn.register (take (16 * l.k) l.bytes)
