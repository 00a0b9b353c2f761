use Rattle.std.proofs.Common.{arith}
use Rattle.fit_base.proofs.Blocks.{by_entries}
use Rattle.fit_base.proofs.checksum.after_block.Goals as goal

pub returns : goal.returns
returns c =
    rw (
      c.entry.ensures,
      c.entry-2.ensures,
      c.entry-3.ensures,
      c.entry-4.ensures,
      c.entry-5.ensures,
      c.entry-6.ensures,
      c.entry-7.ensures,
      c.entry-8.ensures,
      c.entry-9.ensures,
      c.entry-10.ensures,
      c.entry-11.ensures,
      c.entry-12.ensures,
      c.entry-13.ensures,
      c.entry-14.ensures,
      c.entry-15.ensures,
      c.entry-16.ensures,
      c.low_byte.ensures,
      c.high_byte.ensures,
    )
    (by_entries c.args.register c.args.block.now (omega arith) c.requires (λ k. omega (arith, c.type_inv.block k)))
