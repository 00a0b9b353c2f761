use Rattle.std.proofs.Common.{sym}
use Rattle.fit_shifting.proofs.MovedValues.{field_stays}
use Rattle.fit_shifting.proofs.content.move_field.Goals as goal

pub returns-then-bytes-lt4 : goal.returns-then-bytes-lt4
returns-then-bytes-lt4 c =
    let field = c.args.field.now in
    sym (field_stays c.args.shift c.args.message c.args.arch field c.args.bytes.now c.if-bytes-lt4.true)
