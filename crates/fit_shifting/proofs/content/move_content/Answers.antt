use Rattle.std.proofs.Common.{sym}
use Rattle.fit_shifting.proofs.MovedMessage.{content_stays}
use Rattle.fit_shifting.proofs.content.move_content.Goals as goal

pub returns-then-content-lt4 : goal.returns-then-content-lt4
returns-then-content-lt4 c =
    let d = c.args.definition.now in
    sym (content_stays c.args.shift d.global d.arch d.fields.items c.args.content.now c.if-content-lt4.true)
