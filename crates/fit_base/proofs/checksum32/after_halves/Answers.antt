use Rattle.std.proofs.Common.{ℕ, [], ◌∷◌, get_or, refl, ap, ◌∙◌}
use Rattle.fit_base.specs.Checksum.{crc32_polynomial, register_after}
use Rattle.fit_base.proofs.Register.{register_after-next}
use Rattle.fit_base.proofs.checksum32.after_halves.Goals as goal

pub loop-byte-init : goal.loop-byte-init
unfolding register_after
loop-byte-init c = refl

pub loop-byte-preserved : goal.loop-byte-preserved
loop-byte-preserved c =
    c.after_two-register.ensures
    ∙ ap (λ (r : ℕ). register_after crc32_polynomial r (get_or c.args.bytes.now c.loop-byte.byte-index 0 ∷ [])) c.loop-byte.invariant
    ∙ register_after-next crc32_polynomial c.args.register c.args.bytes.now c.loop-byte.byte-index c.loop-byte-test.true
