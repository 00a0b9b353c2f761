use Rattle.std.proofs.Common.{◌≢◌, sym, ap, ◌∙◌, w64, rules}
use Rattle.std.specs.Fmt.{signed_decimal}
use Rattle.std.proofs.lemmas.Int.{to_z-of_z}
use Rattle.fit_base.specs.Base.{row_of}
use Rattle.fit_base.specs.Value.{unsigned_at}
use Rattle.fit_text.specs.Values.{number_as}
use Rattle.fit_text.specs.Notation.{words_of}
use Rattle.fit_text.proofs.PenLemmas.{puts_same}
use Rattle.fit_text.proofs.ValueLemmas.{number_same, number_other, whole_signed_at, plain_signed}
use Rattle.fit_text.proofs.value.number.NotationNumbers.put_number.Goals as goal

pub returns-then-number-invalid : goal.returns-then-number-invalid
returns-then-number-invalid g c =
    let notation = words_of c.args.self.now in
    puts_same c.put.ensures
    (number_same notation c.args.base c.unsigned-number.result (c.if-number-invalid.true ∙ c.invalid.ensures)
    ∙ ap (number_as notation c.args.base) c.unsigned-number.ensures.number)

pub returns-then-is_signed : goal.returns-then-is_signed
returns-then-is_signed g c =
    let notation = words_of c.args.self.now in
    let n = unsigned_at c.args.field.now c.args.i in
    let other : n ≢ (row_of c.args.base).invalid = λ e. c.if-number-invalid.false
    (c.unsigned-number.ensures.number ∙ e ∙ sym c.invalid.ensures) in
    puts_same c.put_signed.ensures
    (ap signed_decimal (to_z-of_z w64 _ (search rules) ∙ c.signed.ensures)
    ∙ whole_signed_at c.args.base c.args.field.now c.args.i c.requires.known (sym c.if-is_signed.ensures)
    ∙ plain_signed notation c.args.base n (sym c.if-is_signed.ensures)
    ∙ number_other notation c.args.base n other)

pub returns-else-is_signed : goal.returns-else-is_signed
returns-else-is_signed g c =
    let notation = words_of c.args.self.now in
    let n = c.unsigned-number.result in
    let other : n ≢ (row_of c.args.base).invalid = λ e. c.if-number-invalid.false (e ∙ sym c.invalid.ensures) in
    puts_same c.put_unsigned.ensures
    (number_other notation c.args.base n other ∙ ap (number_as notation c.args.base) c.unsigned-number.ensures.number)
