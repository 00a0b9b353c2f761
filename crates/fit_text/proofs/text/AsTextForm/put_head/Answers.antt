use Rattle.std.proofs.Common.{ℕ, ap, ◌++◌, ◌∙◌, decimal, length, length-append, arith}
use Rattle.std.proofs.lemmas.Fmt.{length-decimal-le}
use Rattle.fit_text.proofs.PenLemmas.{puts_more, puts_same, puts_stop}
use Rattle.fit_text.proofs.FormLemmas.{head_text}
use Rattle.fit_text.proofs.text.AsTextForm.put_head.Goals as goal

pub returns-in_err-room : goal.returns-in_err-room
returns-in_err-room g c = puts_stop c.from_residual.ensures.0 c.in_err-room.ensures.puts _

pub add_label-requires : goal.add_label-requires
add_label-requires g c =
    omega (
      arith,
      ap (λ w. length w.waiting) c.add_number.ensures.waits,
      length-append {A = ℕ},
      c.in_ok-room.ensures.room,
      length-decimal-le 20 c.args.number (omega arith) (omega arith) (omega arith),
    )

pub returns : goal.returns
returns g c =
    puts_same (puts_more (puts_more c.in_ok-room.ensures.puts c.add_number.ensures) c.add_label.ensures.label)
    (ap (λ label. decimal c.args.number ++ label) c.requires ∙ head_text c.args.number c.args.plan.now.global)
