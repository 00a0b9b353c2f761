use Rattle.std.proofs.Common.{ℕ, ap, length, length-append, arith}
use Rattle.std.proofs.lemmas.Fmt.{length-decimal-le}
use Rattle.fit_text.proofs.PenLemmas.{puts_then, puts_stop, puts_same, puts_more}
use Rattle.fit_text.proofs.FormLemmas.{head_parts}
use Rattle.fit_text.proofs.json.put_json_head.Goals as goal

pub returns-in_err-room : goal.returns-in_err-room
returns-in_err-room g c name titled = puts_stop c.from_residual.ensures.0 c.in_err-room.ensures.puts _

pub add-requires-2 : goal.add-requires-2
add-requires-2 g c =
    omega (
      arith,
      ap (λ w. length w.waiting) c.add.ensures.waits,
      ap (λ w. length w.waiting) c.add_number.ensures.waits,
      length-append {A = ℕ},
      c.in_ok-room.ensures.room,
      length-decimal-le 20 c.args.number (omega arith) (omega arith) (omega arith),
    )

pub add_number-requires-2 : goal.add_number-requires-2
add_number-requires-2 g c =
    omega (
      arith,
      ap (λ w. length w.waiting) c.add.ensures.waits,
      ap (λ w. length w.waiting) c.add_number.ensures.waits,
      ap (λ w. length w.waiting) c.add-2.ensures.waits,
      length-append {A = ℕ},
      c.in_ok-room.ensures.room,
      length-decimal-le 20 c.args.number (omega arith) (omega arith) (omega arith),
    )

pub returns : goal.returns
returns g c name titled =
    puts_same
    (puts_then (puts_more (puts_more (puts_more (puts_more c.in_ok-room.ensures.puts c.add.ensures) c.add_number.ensures) c.add-2.ensures)
    c.add_number-2.ensures) c.put_title.ensures)
    (head_parts name c.args.number c.args.global _ _ c.from.ensures titled)
