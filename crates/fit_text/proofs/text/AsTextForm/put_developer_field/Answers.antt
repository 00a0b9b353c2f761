use Rattle.std.proofs.Common.{ℕ, ap, length, length-append, arith}
use Rattle.std.proofs.lemmas.Fmt.{length-decimal-le}
use Rattle.fit_text.proofs.PenLemmas.{puts_then, puts_stop, puts_same, puts_more}
use Rattle.fit_text.proofs.FormLemmas.{developer_parts}
use Rattle.fit_text.proofs.text.AsTextForm.put_developer_field.Goals as goal

pub returns-in_err-room : goal.returns-in_err-room
returns-in_err-room g c = puts_stop c.from_residual.ensures.0 c.in_err-room.ensures.puts _

pub add-requires-2 : goal.add-requires-2
add-requires-2 g c =
    omega (
      arith,
      ap (λ w. length w.waiting) c.add.ensures.waits,
      ap (λ w. length w.waiting) c.add_number.ensures.waits,
      length-append {A = ℕ},
      c.in_ok-room.ensures.room,
      length-decimal-le 3 c.from.result (omega arith) (omega (arith, c.from.ensures)) (omega (arith, c.from.ensures)),
    )

pub add_number-requires-2 : goal.add_number-requires-2
add_number-requires-2 g c =
    omega (
      arith,
      ap (λ w. length w.waiting) c.add.ensures.waits,
      ap (λ w. length w.waiting) c.add_number.ensures.waits,
      ap (λ w. length w.waiting) c.add-2.ensures.waits,
      length-append {A = ℕ},
      c.in_ok-room.ensures.room,
      length-decimal-le 3 c.from.result (omega arith) (omega (arith, c.from.ensures)) (omega (arith, c.from.ensures)),
    )

pub add-requires-3 : goal.add-requires-3
add-requires-3 g c =
    omega (
      arith,
      ap (λ w. length w.waiting) c.add.ensures.waits,
      ap (λ w. length w.waiting) c.add_number.ensures.waits,
      ap (λ w. length w.waiting) c.add-2.ensures.waits,
      ap (λ w. length w.waiting) c.add_number-2.ensures.waits,
      length-append {A = ℕ},
      c.in_ok-room.ensures.room,
      length-decimal-le 3 c.from.result (omega arith) (omega (arith, c.from.ensures)) (omega (arith, c.from.ensures)),
      length-decimal-le 3 c.from-2.result (omega arith) (omega (arith, c.from-2.ensures)) (omega (arith, c.from-2.ensures)),
    )

pub returns : goal.returns
returns g c =
    puts_same (puts_then (puts_more (puts_more (puts_more (puts_more (puts_more c.in_ok-room.ensures.puts c.add.ensures)
    c.add_number.ensures)
    c.add-2.ensures)
    c.add_number-2.ensures)
    c.add-3.ensures)
    c.put_hex.ensures)
    (developer_parts c.args.field.now.index c.args.field.now.number c.args.arch c.args.bytes.now _ _ c.from.ensures c.from-2.ensures)
