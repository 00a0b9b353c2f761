use Rattle.std.proofs.Common.{ℕ, ◌≡◌, ◌+◌, ◌-◌, ◌*◌, ◌/◌, ◌≤◌, take, drop, length, length-drop, take_all, refl, ap, ◌∙◌, arith}
use Rattle.fit_base.specs.Checksum.{crc_from, register_after}
use Rattle.fit_base.proofs.Register.{crc_from-take, crc_from-drop}
use Rattle.fit_base.proofs.checksum.after_blocks.Goals as goal

pub loop-k-init : goal.loop-k-init
unfolding crc_from register_after
loop-k-init c = refl

pub loop-k-preserved : goal.loop-k-preserved
loop-k-preserved c =
    let sixteen : 16 * c.loop-k.k + 16 - 16 * c.loop-k.k ≡ 16 = omega arith in
    let next : 16 * c.loop-k.k + 16 ≡ 16 * (c.loop-k.k + 1) = omega arith in
    c.after_block-register.ensures
    ∙ ap (λ (n : ℕ). crc_from c.loop-k.register (take n (drop (16 * c.loop-k.k) c.args.bytes.now))) sixteen
    ∙ ap (λ (r : ℕ). crc_from r (take 16 (drop (16 * c.loop-k.k) c.args.bytes.now))) c.loop-k.invariant
    ∙ crc_from-take c.args.register c.args.bytes.now (16 * c.loop-k.k) 16
    ∙ ap (λ (n : ℕ). crc_from c.args.register (take n c.args.bytes.now)) next

pub returns : goal.returns
returns c =
    let blocks : c.loop-k.k ≡ length c.args.bytes.now / 16 = omega arith in
    let rest : length (drop (16 * (length c.args.bytes.now / 16)) c.args.bytes.now)
    ≤ length c.args.bytes.now - 16 * (length c.args.bytes.now / 16) =
    omega (arith, length-drop (16 * (length c.args.bytes.now / 16)) c.args.bytes.now) in
    c.after_few.ensures
    ∙ ap (crc_from c.loop-k.register) (take_all _ _ rest)
    ∙ ap (λ (r : ℕ). crc_from r (drop (16 * (length c.args.bytes.now / 16)) c.args.bytes.now))
    (c.loop-k.invariant ∙ ap (λ (k : ℕ). crc_from c.args.register (take (16 * k) c.args.bytes.now)) blocks)
    ∙ crc_from-drop c.args.register c.args.bytes.now (16 * (length c.args.bytes.now / 16))
