use Rattle.std.proofs.Common.{ap, sym, ◌∙◌}
use Rattle.fit_shifting.specs.Moved.{can_move}
use Rattle.fit_shifting.proofs.MovedMessage.{free_message}
use Rattle.fit_shifting.proofs.checking.can_move_data.Goals as goal

pub returns-then-content-lt4 : goal.returns-then-content-lt4
returns-then-content-lt4 c = λ is.
    let own = c.args.own.now in
    c.can_move_compressed.ensures
    ∙ sym (free_message c.args.shift own.definition c.args.time own.content.now c.if-content-lt4.true)
    ∙ ap (can_move c.args.shift) (sym is)
