use Rattle.std.proofs.Common.{◌<◌, ◌^◌, length}
use Rattle.fit_base.proofs.Powers.{pow256}
use Rattle.fit_base.proofs.Numbers.{low_first-written, high_first-written}
use Rattle.fit_base.proofs.putting.put_number.Goals as goal

pub write_uint-requires-clause-fits : goal.write_uint-requires-clause-fits
write_uint-requires-clause-fits c = rw (pow256 (length c.args.out.now)) c.requires.fits

pub write_uint-requires-in-Big-clause-fits : goal.write_uint-requires-in-Big-clause-fits
write_uint-requires-in-Big-clause-fits c = rw (pow256 (length c.args.out.now)) c.requires.fits

pub returns-in-Little : goal.returns-in-Little
returns-in-Little c =
    let fits : c.args.n < 256 ^ length c.args.out.now = rw (pow256 (length c.args.out.now)) c.requires.fits in
    rw (c.in-Little.is, c.write_uint.ensures) (low_first-written c.args.n c.args.out.now fits)

pub returns-in-Big : goal.returns-in-Big
returns-in-Big c =
    let fits : c.args.n < 256 ^ length c.args.out.now = rw (pow256 (length c.args.out.now)) c.requires.fits in
    rw (c.in-Big.is, c.write_uint-in-Big.ensures) (high_first-written c.args.n c.args.out.now fits)
