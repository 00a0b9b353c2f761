use Rattle.fit_base.specs.Value.{values_of}
use Rattle.fit_grammar.specs.Format.Message.{MessageField}
use Rattle.fit_text.proofs.PenLemmas.{puts_then, puts_stop, puts_same}
use Rattle.fit_table.proofs.JsonLemmas.{field_parts}
use Rattle.fit_table.proofs.json.member.put_field.Goals as goal

pub returns-in_err-put : goal.returns-in_err-put
returns-in_err-put g c =
    let field : MessageField = record { number = c.args.number; base = c.args.value.now.base; values = values_of c.args.value.now } in
    puts_same (puts_stop c.from_residual.ensures.0 (rw c.opening.ensures at c.in_err-put.ensures) _)
    (field_parts c.args.utc c.args.is_first c.args.message field _ _ _ _ c.requires c.are_in_units.ensures c.unit_of.ensures c.unit_for-unit.ensures)

pub returns-in_err-put_title : goal.returns-in_err-put_title
returns-in_err-put_title g c =
    let field : MessageField = record { number = c.args.number; base = c.args.value.now.base; values = values_of c.args.value.now } in
    puts_same
    (puts_then (rw c.opening.ensures at c.in_ok-put.ensures)
    (puts_stop c.from_residual-in_err-put_title.ensures.0 c.in_err-put_title.ensures _))
    (field_parts c.args.utc c.args.is_first c.args.message field _ _ _ _ c.requires c.are_in_units.ensures c.unit_of.ensures c.unit_for-unit.ensures)

pub returns-in_err-put-2 : goal.returns-in_err-put-2
returns-in_err-put-2 g c =
    let field : MessageField = record { number = c.args.number; base = c.args.value.now.base; values = values_of c.args.value.now } in
    puts_same
    (puts_then (rw c.opening.ensures at c.in_ok-put.ensures)
    (puts_then c.in_ok-put_title.ensures (puts_stop c.from_residual-in_err-put-2.ensures.0 c.in_err-put-2.ensures _)))
    (field_parts c.args.utc c.args.is_first c.args.message field _ _ _ _ c.requires c.are_in_units.ensures c.unit_of.ensures c.unit_for-unit.ensures)

pub returns : goal.returns
returns g c =
    let field : MessageField = record { number = c.args.number; base = c.args.value.now.base; values = values_of c.args.value.now } in
    puts_same
    (puts_then (rw c.opening.ensures at c.in_ok-put.ensures) (puts_then c.in_ok-put_title.ensures (puts_then c.in_ok-put-2.ensures c.put_values.ensures)))
    (field_parts c.args.utc c.args.is_first c.args.message field _ _ _ _ c.requires c.are_in_units.ensures c.unit_of.ensures c.unit_for-unit.ensures)
