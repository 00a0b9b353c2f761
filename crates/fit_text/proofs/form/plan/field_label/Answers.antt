use Rattle.std.proofs.Common.{ℕ, ap, ◌∙◌, arith, length, length-append}
use Rattle.std.proofs.lemmas.Fmt.{length-decimal-le}
use Rattle.fit_text.proofs.form.plan.field_label.Goals as goal
use Rattle.fit_text.proofs.form.plan.field_label.Goals.{in-Some, in-None}

pub add-requires-2 : goal.add-requires-2
add-requires-2 c =
    elim c.match-known_row.branch [
      | in-Some w ↦ omega (arith, ap length (w.label-is ∙ w.add-in-Some.ensures), length-append {A = ℕ}, w.as_bytes.ensures, w.in-Some.ensures.short, ap length c.add.ensures, ap length c.new-label.ensures)
      | in-None w ↦ omega (arith, ap length (w.label-is ∙ w.add_number.ensures), length-append {A = ℕ}, ap length w.add-in-None.ensures, length-decimal-le 3 w.from.result (omega arith) (omega (arith, w.from.ensures)) (omega (arith, w.from.ensures)), ap length c.add.ensures, ap length c.new-label.ensures)
    ]
