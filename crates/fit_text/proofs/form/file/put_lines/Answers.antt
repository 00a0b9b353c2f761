use Rattle.std.proofs.Common.{refl, arith}
use Rattle.fit_text.proofs.PenLemmas.{puts_then, puts_stop, puts_same}
use Rattle.fit_text.proofs.FormLemmas.{file_parts}
use Rattle.fit_grammar.proofs.Counted.{few_messages}
use Rattle.fit_text.proofs.form.file.put_lines.Goals as goal

pub returns-in_err-put_header : goal.returns-in_err-put_header
returns-in_err-put_header g c =
    puts_same (puts_stop c.from_residual.ensures.0 c.in_err-put_header.ensures _)
    (file_parts (g.F.Form.form c.args.form.now) c.args.utc _ c.args.file.now _ _ _ c.notation-notation.ensures c.frame.ensures.frame c.data_size.ensures refl)

pub put_messages-requires : goal.put_messages-requires
put_messages-requires g c =
    let few = few_messages c.args.file.now.items in
    omega (arith, few, c.data_size.ensures)

pub returns-in_err-count : goal.returns-in_err-count
returns-in_err-count g c =
    puts_same
    (puts_then c.in_ok-put_header.ensures (puts_stop c.from_residual-in_err-count.ensures.0 c.in_err-count.ensures.text _))
    (file_parts (g.F.Form.form c.args.form.now) c.args.utc _ c.args.file.now _ _ _ c.notation-notation.ensures c.frame.ensures.frame c.data_size.ensures refl)

pub returns : goal.returns
returns g c =
    puts_same
    (puts_then c.in_ok-put_header.ensures (puts_then c.in_ok-count.ensures.text c.put_count.ensures))
    (file_parts (g.F.Form.form c.args.form.now) c.args.utc _ c.args.file.now _ _ _ c.notation-notation.ensures c.frame.ensures.frame c.data_size.ensures
    c.in_ok-count.ensures.count)
