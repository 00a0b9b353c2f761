use Rattle.std.proofs.Common.{ℕ, ◌+◌, ◌-◌, ◌*◌, ◌≡◌, suc, ◌∙◌, ap, sym, arith}
use Rattle.fit_base.proofs.Entries.{get_or-FIRST32, get_or-LATER32}
use Rattle.fit_base.specs.Checksum.{crc32_polynomial}
use Rattle.fit_base.proofs.Register.{shifts}
use Rattle.fit_base.proofs.Blocks.{byte-zeros}
use Rattle.fit_base.proofs.checksum32.entry.Goals as goal

pub returns-then-zeros-eq0 : goal.returns-then-zeros-eq0
returns-then-zeros-eq0 c =
    let eight : 8 ≡ 8 * suc c.args.zeros = omega (arith, c.if-zeros-eq0.true) in
    get_or-FIRST32 c.args.byte (omega arith) ∙ ap (λ (n : ℕ). shifts crc32_polynomial n c.args.byte) eight ∙ sym (byte-zeros crc32_polynomial c.args.byte c.args.zeros (omega arith))

pub returns-else-zeros-eq0 : goal.returns-else-zeros-eq0
returns-else-zeros-eq0 c =
    let more : 8 + 8 * suc (c.args.zeros - 1) ≡ 8 * suc c.args.zeros = omega (arith, c.if-zeros-eq0.false) in
    get_or-LATER32 _ (c.args.zeros - 1) c.args.byte (omega (arith, c.requires, c.if-zeros-eq0.false)) (omega arith)
    ∙ ap (λ (n : ℕ). shifts crc32_polynomial n c.args.byte) more ∙ sym (byte-zeros crc32_polynomial c.args.byte c.args.zeros (omega arith))
