use Rattle.std.proofs.Common.{arith}
use Rattle.fit_base.specs.Checksum.{crc32_polynomial}
use Rattle.fit_base.proofs.Blocks.{by_four_entries}
use Rattle.fit_base.proofs.checksum32.after_block.Goals as goal

pub returns : goal.returns
returns c =
    rw (
      c.entry-rest.ensures,
      c.entry-2.ensures,
      c.entry-3.ensures,
      c.entry-4.ensures,
      c.entry-5.ensures,
      c.entry-6.ensures,
      c.entry-7.ensures,
      c.entry-8.ensures,
      c.entry-9.ensures,
      c.entry-10.ensures,
      c.entry-11.ensures,
      c.entry-12.ensures,
      c.entry-13.ensures,
      c.entry-14.ensures,
      c.entry-15.ensures,
      c.entry.ensures,
      c.low_byte.ensures,
      c.low_byte-2.ensures,
      c.low_byte-3.ensures,
      c.low_byte-4.ensures,
    )
    (by_four_entries crc32_polynomial c.args.block.now c.requires (λ k. omega (arith, c.type_inv.block k)) c.args.register (omega arith))
