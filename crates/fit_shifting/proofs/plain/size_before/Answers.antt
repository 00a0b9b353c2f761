use Rattle.fit_grammar.specs.Calls.PlainForm.{is_timed}
use Rattle.fit_shifting.proofs.MovedBytes.{size_before}
use Rattle.fit_shifting.proofs.plain.size_before.Goals as goal
use Rattle.fit_shifting.proofs.plain.size_before.Goals.{then-needs, else-needs}

pub returns-clause-size : goal.returns-clause-size
returns-clause-size c =
    size_before (is_timed c.args.timed.now c.args.message.now.local) c.args.needs c.args.message.now.definition c.size_written.result c.if-needs.result
    c.if-timed-message.false c.size_written.ensures.size
    (elim c.if-needs.branch [
      | then-needs w ↦ rw w.if-needs.true w.result-is
      | else-needs w ↦ rw w.if-needs.false w.result-is
    ])
