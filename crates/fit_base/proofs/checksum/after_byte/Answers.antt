use Rattle.std.proofs.Common.{arith}
use Rattle.fit_base.proofs.Blocks.{by_entry}
use Rattle.fit_base.proofs.checksum.after_byte.Goals as goal

pub returns : goal.returns
returns c =
    rw (c.entry.ensures, c.low_byte.ensures) (by_entry c.args.register c.args.byte (omega arith))
