use Rattle.std.proofs.Common.{arith, refl}
use Rattle.fit_base.proofs.Entries.{by_halves}
use Rattle.fit_base.proofs.checksum32.after_two.Goals as goal

pub returns : goal.returns
returns c =
    by_halves c.args.register c.args.byte c.from.result c.low_half.result _ c.low_half-2.result (omega arith) c.from.ensures c.low_half.ensures refl c.low_half-2.ensures
