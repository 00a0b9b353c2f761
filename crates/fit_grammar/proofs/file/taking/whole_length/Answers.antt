use Rattle.std.proofs.Common.{◌∙◌}
use Rattle.fit_grammar.proofs.OneItem.Least.{least_begun}
use Rattle.fit_grammar.proofs.file.taking.whole_length.Goals as goal

pub returns-then-least-window-clause-shown : goal.returns-then-least-window-clause-shown
returns-then-least-window-clause-shown c = λ f is.
    let least = is ∙ c.in-Ok.is in
    (c.in-Ok.least, least, c.if-least-left.false, least_begun f c.args.window.now c.in-Ok.least least c.if-least-window.true)
