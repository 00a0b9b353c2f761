use Rattle.std.proofs.Common.{arith}
use Rattle.fit_base.specs.Checksum.{crc32_polynomial}
use Rattle.fit_base.proofs.Blocks.{by_entry_of}
use Rattle.fit_base.proofs.checksum32.after_byte.Goals as goal

pub returns : goal.returns
returns c =
    rw (c.entry.ensures, c.low_byte.ensures) (by_entry_of crc32_polynomial c.args.register c.args.byte (omega arith))
