use Rattle.std.proofs.Common.{rules, ◌≡◌, ℕ, ◌-◌, ◌<◌, List, [], ◌∷◌, ◌++◌, length, Option, take, drop, refl, sym, ap, ◌∙◌, arith}
use Rattle.fit_base.specs.declared.order.Arch.{Arch}
use Rattle.fit_grammar.specs.declared.definition.FieldDefinition.{FieldDefinition}
use Rattle.fit_grammar.proofs.Encoder.Checked.{checked_same}
use Rattle.fit_joining.specs.declared.tally.Tally.{Tally}
use Rattle.fit_joining.specs.Content.{field_changed, content_changed}
use Rattle.fit_joining.proofs.FieldsLeft.{split, fields_within}
use Rattle.fit_joining.proofs.Leaves.{leaves_all, leaves_next, leaves_off, leaves_last}
use Rattle.fit_joining.proofs.content.put_content.Goals as goal

fields_next : (given : List (Option ℕ)) (t : Tally) (message : ℕ) (arch : Arch) (fields others : List FieldDefinition) (field : FieldDefinition) (content own after : List ℕ)
    → fields ≡ field ∷ others → own ≡ take field.size content → after ≡ drop field.size content
    → content_changed given t message arch fields content
    ≡ field_changed given t message arch field own ++ content_changed given t message arch others after
fields_next given t message arch fields others field content own after is own_is after_is =
    ap (λ (fs : List FieldDefinition). content_changed given t message arch fs content) is
    ∙ ap (λ (bytes : List ℕ). field_changed given t message arch field bytes ++ content_changed given t message arch others (drop field.size content)) (sym own_is)
    ∙ ap (λ (bytes : List ℕ). field_changed given t message arch field own ++ content_changed given t message arch others bytes) (sym after_is)

none_left : (given : List (Option ℕ)) (t : Tally) (message : ℕ) (arch : Arch) (fields : List FieldDefinition) (content : List ℕ) → length fields < 1
    → content_changed given t message arch fields content ≡ content
none_left given t message arch [] content none = refl
none_left given t message arch (field ∷ fields) content none = absurd (omega (arith, none))

pub loop-fields-init : goal.loop-fields-init
loop-fields-init g c = record {
  within = search rules;
  so_far = leaves_all _ _ _ _ (search rules);
}

pub returns-in_err-put_field : goal.returns-in_err-put_field
returns-in_err-put_field g c =
    let d = c.args.definition.now in
    let left = c.loop-fields.fields.now in
    leaves_off c.put_field.new.checksum
    (content_changed c.args.given.now c.args.tally d.global d.arch (take (length left - 1) (drop 1 left)) c.split_at.result.1.now) c.from_residual.ensures.0
    c.loop-fields.invariant.so_far c.in_err-put_field.ensures
    (fields_next c.args.given.now c.args.tally d.global d.arch left _ _ c.loop-fields.rest.now _ _ (split left _ c.in-len1-up.len_at_least) c.split_at.ensures.front
    c.split_at.ensures.back)

pub loop-fields-preserved : goal.loop-fields-preserved
loop-fields-preserved g c =
    let d = c.args.definition.now in
    let left = c.loop-fields.fields.now in
    record {
      within = fields_within left _ _ c.loop-fields.rest.now _ (split left _ c.in-len1-up.len_at_least) c.split_at.ensures.back
          c.loop-fields.invariant.within;
      so_far = leaves_next _ c.loop-fields.invariant.so_far c.in_ok-put_field.ensures
          (fields_next c.args.given.now c.args.tally d.global d.arch left _ _ c.loop-fields.rest.now _ _ (split left _ c.in-len1-up.len_at_least)
          c.split_at.ensures.front c.split_at.ensures.back);
    }

pub returns : goal.returns
returns g c =
    let d = c.args.definition.now in
    leaves_last c.loop-fields.invariant.so_far
    (checked_same c.put_checked.ensures
    (sym (none_left c.args.given.now c.args.tally d.global d.arch c.loop-fields.fields.now c.loop-fields.rest.now c.in_default.len_below)))
