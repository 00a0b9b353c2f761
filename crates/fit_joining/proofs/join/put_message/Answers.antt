use Rattle.fit_grammar.proofs.Encoder.Checked.{then_checked, stops_checked}
use Rattle.fit_joining.specs.Content.{content_changed}
use Rattle.fit_joining.proofs.join.put_message.Goals as goal

pub returns-in_err-put_checked : goal.returns-in_err-put_checked
returns-in_err-put_checked g c =
    let d = c.args.definition.now in
    stops_checked c.from_residual.ensures.0 c.in_err-put_checked.ensures _
    (content_changed c.args.given.now c.args.tally d.global d.arch d.fields.items c.args.content.now)

pub returns : goal.returns
returns g c = then_checked c.in_ok-put_checked.ensures c.put_content.ensures
