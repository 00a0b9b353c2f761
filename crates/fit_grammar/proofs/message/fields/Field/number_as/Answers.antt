use Rattle.std.proofs.Common.{Some, length, sym, ap, ◌∙◌}
use Rattle.fit_base.specs.Number.{number}
use Rattle.fit_grammar.specs.Calls.LentField.{field_view}
use Rattle.fit_grammar.proofs.OneValue.{one-of-type, none-of-type, number-in-one}
use Rattle.fit_grammar.proofs.message.fields.Field.number_as.Goals as goal

pub returns-then-bytes-size-clause-number : goal.returns-then-bytes-size-clause-number
returns-then-bytes-size-clause-number c =
    let value = c.args.self.now.value in
    let code = sym c.base.ensures ∙ c.if-base-code.false ∙ c.code.ensures in
    sym (number-in-one c.args.base (field_view c.args.self.now) code
    ∙ none-of-type c.args.base value code (λ is. c.if-bytes-size.true (ap length c.raw-bytes.ensures ∙ is ∙ sym c.size.ensures)))

pub returns-clause-number : goal.returns-clause-number
returns-clause-number c =
    let value = c.args.self.now.value in
    let code = sym c.base.ensures ∙ c.if-base-code.false ∙ c.code.ensures in
    let long = sym (ap length c.raw-bytes.ensures) ∙ c.if-bytes-size.false ∙ c.size.ensures in
    ap Some (c.number_of.ensures.number ∙ ap (λ arch. number arch c.raw-bytes.result.now) c.arch.ensures ∙ ap (number value.arch) c.raw-bytes.ensures)
    ∙ sym (number-in-one c.args.base (field_view c.args.self.now) code ∙ one-of-type c.args.base value code long)
