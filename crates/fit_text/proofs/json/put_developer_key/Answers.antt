use Rattle.std.proofs.Common.{refl}
use Rattle.fit_text.proofs.FormLemmas.{key_parts}
use Rattle.fit_text.proofs.PenLemmas.{puts_then, puts_stop, puts_same}
use Rattle.fit_text.proofs.json.put_developer_key.Goals as goal

pub returns-in_err-put_labelled : goal.returns-in_err-put_labelled
returns-in_err-put_labelled g c =
    puts_same (puts_stop c.from_residual.ensures.0 c.in_err-put_labelled.ensures _)
    (key_parts c.args.field.now.index c.args.field.now.number _ _ c.from.ensures refl)

pub returns : goal.returns
returns g c =
    puts_same (puts_then c.in_ok-put_labelled.ensures c.put_labelled-2.ensures)
    (key_parts c.args.field.now.index c.args.field.now.number _ _ c.from.ensures c.from-2.ensures)
