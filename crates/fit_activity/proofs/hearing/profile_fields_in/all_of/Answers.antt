use Rattle.std.proofs.Common.{◌++◌, length, map, sym, ap, ◌∙◌, arith, append-nil}
use Rattle.std.proofs.lemmas.Option.{none-some}
use Rattle.std.proofs.lemmas.Bool.{eqb-true}
use Rattle.fit_activity.specs.Messages.ProfileField.{message_field, IsShortField}
use Rattle.fit_activity.proofs.OneList.Recognised.{map-same, profile_field-next, profile_field-many}
use Rattle.fit_activity.proofs.hearing.profile_fields_in.all_of.Goals as goal

pub returns-then-is_full-clause-only : goal.returns-then-is_full-clause-only
returns-then-is_full-clause-only c = λ all short few is.
    let done = c.loop-field.profile_fields.items in
    let parts = is ∙ sym c.into_iter-field-iterator.ensures.into_iter_gives ∙ sym c.loop-field.invariant.0
    ∙ ap (λ xs. map message_field done ++ xs) c.in-Some.ensures.steps in
    let full = eqb-true (length done) 15 (sym c.is_full.ensures.value ∙ c.if-is_full.true) in
    omega (arith, profile_field-many all done _ c.next.new.self parts, few, full)

pub returns-in_err-profile_field_of-clause-only : goal.returns-in_err-profile_field_of-clause-only
returns-in_err-profile_field_of-clause-only c = λ all short few is.
    let done = c.loop-field.profile_fields.items in
    let parts = is ∙ sym c.into_iter-field-iterator.ensures.into_iter_gives ∙ sym c.loop-field.invariant.0
    ∙ ap (λ xs. map message_field done ++ xs) c.in-Some.ensures.steps in
    let next = profile_field-next IsShortField all done _ c.next.new.self parts short in
    absurd (none-some next.0 (sym c.in_err-profile_field_of.was ∙ c.profile_field_of.ensures.only next.0 next.1 next.2))

pub returns-clause-only : goal.returns-clause-only
returns-clause-only c = λ all short few is.
    let done = c.loop-field.profile_fields.items in
    sym (map-same all done (is ∙ sym c.into_iter-field-iterator.ensures.into_iter_gives ∙ sym c.loop-field.invariant.0
    ∙ ap (λ xs. map message_field done ++ xs) c.in-None.ensures.steps.0 ∙ append-nil (map message_field done)))
