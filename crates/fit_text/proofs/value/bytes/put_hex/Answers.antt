use Rattle.std.proofs.Common.{◌≡◌, [], arith, ap, ◌∙◌, sym}
use Rattle.std.proofs.lemmas.Grind.{common_steps}
use Rattle.std.proofs.lemmas.List.{nil_from_length}
use Rattle.fit_text.specs.Values.{hex_text}
use Rattle.fit_text.proofs.PenLemmas.{puts_then, puts_stop, puts_same, puts_none}
use Rattle.fit_text.proofs.ValueLemmas.{hex_none, hex_some}
use Rattle.fit_text.proofs.value.bytes.put_hex.Goals as goal

pub returns-then-is_empty : goal.returns-then-is_empty
returns-then-is_empty g c =
    let none : [] ≡ c.args.bytes.now = sym (nil_from_length _ (grind (arith, common_steps))) in
    puts_same (puts_none _ tt) (hex_none ∙ ap hex_text none)

pub returns-in_err-put : goal.returns-in_err-put
returns-in_err-put g c =
    puts_same (puts_stop c.from_residual.ensures.0 c.in_err-put.ensures _) (hex_some _ (grind (arith, common_steps)))

pub returns : goal.returns
returns g c = puts_same (puts_then c.in_ok-put.ensures c.put_digits.ensures) (hex_some _ (grind (arith, common_steps)))
