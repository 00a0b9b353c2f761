use Rattle.std.proofs.Common.{◌≡◌, take}
use Rattle.fit_base.specs.Checksum.{crc32_polynomial, register_after}
use Rattle.fit_base.proofs.checksum32.after_few.Given as goal

abbrev pub invariant-loop-byte : goal.invariant-loop-byte
invariant-loop-byte l = l.register ≡ register_after crc32_polynomial l.fn.register (take l.byte-index l.bytes)
