use Rattle.std.proofs.Common.{ℕ, ap, bit_xor}
use Rattle.fit_base.specs.Checksum.{all_bits, crc32_from}
use Rattle.fit_base.proofs.checksum32.with_more.Goals as goal

pub returns : goal.returns
unfolding crc32_from
returns c = ap (λ (r : ℕ). bit_xor r all_bits) c.after_bytes.ensures
