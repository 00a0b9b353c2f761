use Rattle.std.proofs.Common.{◌∙◌, sym}
use Rattle.fit_text.proofs.PenLemmas.{puts_same}
use Rattle.fit_table.proofs.JsonLemmas.{in_unit}
use Rattle.fit_table.proofs.json.number.put_values.Goals as goal

pub returns-in-Some : goal.returns-in-Some
returns-in-Some g c =
    puts_same c.put_at.ensures
    (in_unit c.args.unit c.args.value.now c.in-Some.base (sym c.base_type.ensures ∙ c.in-Some.is) (sym c.if-has_units.ensures)
    (sym c.count.ensures ∙ c.if-count-eq1.true))
