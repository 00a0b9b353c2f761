use Rattle.std.proofs.Common.{sym, ap, ◌∙◌, ◌==◌, [], if◌then◌else◌}
use Rattle.fit_base.proofs.Values.{length-numbers_of}
use Rattle.fit_base.specs.Value.{numbers, value_size, count_of}
use Rattle.fit_table.specs.Cells.{values_from}
use Rattle.fit_table.proofs.CellLemmas.{values_none, values_some}
use Rattle.fit_table.proofs.TokenLemmas.{tokens_same, tokens_text}
use Rattle.fit_table.proofs.array.put_values.Goals as goal

pub returns-then-are_none : goal.returns-then-are_none
returns-then-are_none g c = tokens_same (tokens_text c.put.ensures) (values_none _ _ _ _ (sym c.if-are_none.ensures))

pub returns : goal.returns
returns g c =
    let field = c.args.field.now in
    let ns = numbers field.arch (value_size field) (count_of field) field.bytes in
    let inner = c.empty_among.ensures
    ∙ ap (λ n. if n == 1 then c.args.empty.now else []) (c.count.ensures ∙ sym (length-numbers_of field)) in
    tokens_same c.put_each.ensures
    (ap (λ e. values_from e c.args.unit c.args.base [] ns) inner ∙ values_some c.args.empty.now c.args.unit c.args.base ns (sym c.if-are_none.ensures))
