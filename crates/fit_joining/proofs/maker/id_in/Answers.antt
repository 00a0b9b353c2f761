use Rattle.std.proofs.Common.{◌≡◌, ℕ, ◌==◌, Bool, true, false, List, ◌∷◌, take, drop, sym, ap, ◌∙◌, eq-eqb, if◌then◌else◌}
use Rattle.fit_base.specs.declared.order.Arch.{Arch}
use Rattle.fit_base.specs.Value.{values_of}
use Rattle.fit_grammar.specs.declared.definition.FieldDefinition.{FieldDefinition}
use Rattle.fit_grammar.specs.Format.Message.{fields_of}
use Rattle.fit_joining.specs.Makers.{bytes_by, id_in, is_single}
use Rattle.fit_joining.proofs.FieldsLeft.{split}
use Rattle.fit_joining.proofs.maker.id_in.Goals as goal

abbrev bytes_read : Arch → FieldDefinition → List ℕ → List ℕ
bytes_read arch field bytes = bytes_by (is_single field.base) (values_of (record { base = field.base; arch = arch; bytes = bytes }))

-- the first field, or one of those after it
found_next : (number : ℕ) (arch : Arch) (fields others : List FieldDefinition) (field : FieldDefinition) (content own after : List ℕ)
    → fields ≡ field ∷ others → own ≡ take field.size content → after ≡ drop field.size content
    → id_in number (fields_of arch fields content)
    ≡ (if field.number == number then bytes_read arch field own else id_in number (fields_of arch others after))
found_next number arch fields others field content own after is own_is after_is =
    ap (λ (fs : List FieldDefinition). id_in number (fields_of arch fs content)) is
    ∙ ap (λ (bytes : List ℕ). if field.number == number then bytes_read arch field bytes else id_in number (fields_of arch others (drop field.size content))) (sym own_is)
    ∙ ap (λ (bytes : List ℕ). if field.number == number then bytes_read arch field own else id_in number (fields_of arch others bytes)) (sym after_is)

pick_true : (b : Bool) (xs ys zs : List ℕ) → b ≡ true → zs ≡ (if b then xs else ys) → zs ≡ xs
pick_true true xs ys zs is e = e
pick_true false xs ys zs is e = absurd (cc is)

pub returns-then-field-number : goal.returns-then-field-number
returns-then-field-number c =
    let d = c.args.definition.now in
    let left = c.loop-fields.fields.now in
    c.single_bytes.ensures d.arch
    ∙ sym (pick_true _ _ _ _ (eq-eqb _ _ c.if-field-number.true)
    (found_next c.args.number d.arch left _ _ c.loop-fields.rest.now _ _ (split left _ c.in-len1-up.len_at_least) c.split_at.ensures.front
    c.split_at.ensures.back))
    ∙ c.loop-fields.invariant.found
