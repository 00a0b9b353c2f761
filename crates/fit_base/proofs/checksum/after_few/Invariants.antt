use Rattle.std.proofs.Common.{◌≡◌, take}
use Rattle.fit_base.specs.Checksum.{crc_from}
use Rattle.fit_base.proofs.checksum.after_few.Given as goal

abbrev pub invariant-loop-byte : goal.invariant-loop-byte
invariant-loop-byte l = l.register ≡ crc_from l.fn.register (take l.byte-index l.bytes)
