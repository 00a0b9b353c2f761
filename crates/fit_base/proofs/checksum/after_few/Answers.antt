use Rattle.std.proofs.Common.{ℕ, [], ◌∷◌, get_or, refl, ap, ◌∙◌}
use Rattle.fit_base.specs.Checksum.{crc_from, register_after}
use Rattle.fit_base.proofs.Register.{crc_from-next}
use Rattle.fit_base.proofs.checksum.after_few.Goals as goal

pub loop-byte-init : goal.loop-byte-init
unfolding crc_from register_after
loop-byte-init c = refl

pub loop-byte-preserved : goal.loop-byte-preserved
loop-byte-preserved c =
    c.after_byte-register.ensures
    ∙ ap (λ (r : ℕ). crc_from r (get_or c.args.bytes.now c.loop-byte.byte-index 0 ∷ [])) c.loop-byte.invariant
    ∙ crc_from-next c.args.register c.args.bytes.now c.loop-byte.byte-index c.loop-byte-test.true
