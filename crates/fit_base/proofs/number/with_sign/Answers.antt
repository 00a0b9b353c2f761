use Rattle.std.proofs.Common.{◌-◌, ◌*◌, ◌^◌, ◌≤◌, pos, ◌-ℤ◌, ℕ, sym, ap, ◌∙◌, arith, pow_mono}
use Rattle.std.proofs.lemmas.Nat.{one_shl}
use Rattle.fit_base.proofs.Powers.{pow-halves}
use Rattle.fit_base.proofs.Signs.{above_half, less_twice}
use Rattle.fit_base.proofs.number.with_sign.Goals as goal

pub returns-else-n-half : goal.returns-else-n-half
returns-else-n-half c =
    let shifted = one_shl (8 * c.args.size - 1) 64 (omega arith) in
    let halves = pow-halves c.args.size c.requires.some in
    let bits : 8 * c.args.size - 1 ≤ 63 = omega arith in
    let bound = pow_mono bits in
    let above : 2 ^ (8 * c.args.size - 1) ≤ c.args.n = rw shifted at c.if-n-half.false in
    rw shifted
    (less_twice c.args.n (2 ^ (8 * c.args.size - 1)) bound above (omega arith)
    ∙ ap (λ (whole : ℕ). pos c.args.n -ℤ pos whole) (sym halves)
    ∙ sym (above_half c.args.n (2 ^ (8 * c.args.size - 1)) (2 ^ (8 * c.args.size)) above))
