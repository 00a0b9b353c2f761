use Rattle.std.proofs.Common.{◌≡◌, ◌∷◌, ℕ, length, take, drop, sym, ap, ◌∙◌}
use Rattle.std.specs.Prelude.{◌++◌, option_map, slice_range}
use Rattle.fit_base.specs.Base.{row_of}
use Rattle.fit_base.specs.Number.{low_first}
use Rattle.fit_grammar.specs.Format.Message.{time_fields, fields_of}
use Rattle.fit_grammar.specs.Calls.LentField.{field_with}
use Rattle.fit_grammar.specs.Private.DefinitionBytes.{fields_in}
use Rattle.fit_grammar.proofs.OneValue.{field-with, is-field-with, without-first}
use Rattle.fit_grammar.proofs.message.fields.Fields.take_value.Goals.{then-first-number-via-then-first-number, then-first-number-via-else-first-number+then-code, then-first-number-via-else-first-number+else-code+then-from-size}
use Rattle.fit_grammar.proofs.message.fields.Fields.take_value.Goals as goal

pub returns-then-first-number-clause-none : goal.returns-then-first-number-clause-none
returns-then-first-number-clause-none c = λ value others is.
    let here = c.self.inside in
    let none = ap (λ time. time_fields (option_map (λ bytes. low_first bytes.now) time) ++ fields_of here.arch (fields_in here.fields.now) here.content.now) (sym c.in_default.is) in
    let by = is-field-with here.arch here.fields.now here.content.now c.args.number c.args.base value others c.in-len3-up.len_at_least c.self.invariant.0
    (none ∙ c.self.view_is ∙ is) in
    elim c.then-first-number.branch [
      | then-first-number-via-then-first-number w ↦ w.if-first-number.true by.0
      | then-first-number-via-else-first-number+then-code w ↦ w.if-code.true (by.1 ∙ sym w.code.ensures)
      | then-first-number-via-else-first-number+else-code+then-from-size w ↦ w.if-from-size.true (w.from.ensures ∙ by.2 ∙ sym w.size.ensures)
    ]

pub returns-clause-taken : goal.returns-clause-taken
returns-clause-taken c =
    let here = c.self.inside in
    let size = c.size-2.ensures in
    let part : c.split_at.result.0.now ≡ take (row_of c.args.base).size here.content.now = c.split_at.ensures.front ∙ ap (λ (n : ℕ). take n here.content.now) size in
    let rest : c.split_at.result.1.now ≡ drop (row_of c.args.base).size here.content.now = c.split_at.ensures.back ∙ ap (λ (n : ℕ). drop n here.content.now) size in
    let long : length c.split_at.result.0.now ≡ (row_of c.args.base).size = c.split_at.ensures.front_len ∙ size in
    let left = slice_range here.fields.now 3 (length here.fields.now) in
    let others : slice_range here.fields.now 3 (length here.fields.now) ≡ drop 3 here.fields.now = without-first here.fields.now in
    let parted = field-with here.arch here.fields.now (slice_range here.fields.now 3 (length here.fields.now)) here.content.now c.split_at.result.0.now c.split_at.result.1.now
    c.args.number c.args.base c.in-len3-up.len_at_least
    c.if-first-number.false (c.if-code.false ∙ c.code.ensures) (sym c.from.ensures ∙ c.if-from-size.false ∙ c.size.ensures) others part long rest in
    let none = ap (λ time. time_fields (option_map (λ bytes. low_first bytes.now) time) ++ fields_of here.arch (fields_in here.fields.now) here.content.now) c.in_default.is in
    sym c.self.view_is ∙ none ∙ parted
    ∙ ap (λ (value : ℕ). field_with c.args.number c.args.base value ∷ fields_of here.arch (fields_in left) c.split_at.result.1.now) (sym c.number_of-2.ensures.number)
    ∙ ap (λ time. field_with c.args.number c.args.base c.number_of-2.result
    ∷ time_fields (option_map (λ bytes. low_first bytes.now) time) ++ fields_of here.arch (fields_in left) c.split_at.result.1.now) (sym c.in_default.is)
