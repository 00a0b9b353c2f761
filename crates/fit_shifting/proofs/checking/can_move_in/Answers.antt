use Rattle.std.proofs.Common.{ℕ, ◌<◌, List, length, sym, subst}
use Rattle.fit_shifting.proofs.MovedValues.{free_field}
use Rattle.fit_shifting.proofs.checking.can_move_in.Goals as goal

pub returns-then-bytes-lt4 : goal.returns-then-bytes-lt4
returns-then-bytes-lt4 c =
    let field = c.args.field.now in
    let v = field.value in
    let short = subst (λ (bytes : List ℕ). length bytes < 4) c.raw-bytes.ensures c.if-bytes-lt4.true in
    sym (free_field c.args.shift c.args.message field.number v.base v.arch v.bytes short)
