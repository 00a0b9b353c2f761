use Rattle.std.proofs.Common.{ℕ, ◌<◌, length, get_or, set, arith, ap, ◌∙◌}
use Rattle.std.proofs.lemmas.List.{get_or_default}
use Rattle.std.proofs.lemmas.List.Edits.{map_over_more}
use Rattle.fit_grammar.specs.declared.definition.DeveloperFieldDefinition.{DeveloperFieldDefinition}
use Rattle.fit_joining.specs.JoinedItems.{developer_given}
use Rattle.fit_joining.proofs.join.give_indices.Goals as goal

pub loop-field-preserved : goal.loop-field-preserved
loop-field-preserved c =
    let any : DeveloperFieldDefinition = record { number = 0; size = 0; index = 0 } in
    let own = get_or c.loop-field.fields c.loop-field.field-index any in
    let here : c.loop-field.field-index < length c.args.fields.now = omega (arith, c.loop-field-test.true) in
    let within : c.loop-field.field-index < length c.loop-field.fields = omega (arith, here, c.loop-field.auto.fields) in
    ap (λ (n : ℕ). set c.loop-field.fields c.loop-field.field-index (record { number = own.number; size = own.size; index = n }))
    c.index_in-field.ensures
    ∙ map_over_more (developer_given c.args.given.now) c.args.fields.now c.loop-field.fields c.loop-field.field-index own here
    c.loop-field.invariant (get_or_default c.loop-field.fields c.loop-field.field-index any own within)
