use Rattle.fit_text.proofs.PenLemmas.{puts_more, puts_same, puts_stop, puts_then}
use Rattle.fit_text.proofs.FormLemmas.{column_text}
use Rattle.fit_text.proofs.text.AsTextForm.put_field.Goals as goal

pub returns-in_err-room-clause-text : goal.returns-in_err-room-clause-text
returns-in_err-room-clause-text g c = puts_stop c.from_residual.ensures.0 c.in_err-room.ensures.puts _

pub returns-clause-text : goal.returns-clause-text
returns-clause-text g c =
    let plan = c.args.plan.now in
    puts_same (puts_then (puts_more c.in_ok-room.ensures.puts c.add_label.ensures.label) c.put_column.ensures.text)
    (column_text plan.utc plan.global c.args.arch c.args.column.now c.args.bytes.now c.args.is_first c.requires.column c.requires.size
    c.put_column.ensures.held)
