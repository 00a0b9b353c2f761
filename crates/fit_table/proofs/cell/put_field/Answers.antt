use Rattle.std.proofs.Common.{Some, sym, ap, ◌∙◌}
use Rattle.fit_table.proofs.CellLemmas.{raw_field, string_field}
use Rattle.fit_table.proofs.TokenLemmas.{tokens_same, tokens_text}
use Rattle.fit_table.proofs.cell.put_field.Goals as goal

pub returns-then-is_raw : goal.returns-then-is_raw
returns-then-is_raw g c = tokens_same (tokens_text c.put.ensures) (raw_field c.args.empty.now c.args.unit c.args.field.now (sym c.if-is_raw.ensures))

pub returns-in-Some-String : goal.returns-in-Some-String
returns-in-Some-String g c =
    tokens_same (tokens_text c.put_string.ensures) (string_field c.args.empty.now c.args.unit c.args.field.now
    (sym c.base_type.ensures ∙ c.in-Some-String.is ∙ ap Some c.in-Some-String.field-0-is) (sym c.if-is_raw.ensures))
