-- A message whose content changes field by field has its fields changed, if each of them keeps its size.
use Rattle.std.proofs.Common.{◌≡◌, ℕ, ◌+◌, ◌≤◌, List, [], ◌∷◌, ◌++◌, length, map, take, drop, None, refl, sym, ap, ◌∙◌, arith, length-append}
use Rattle.std.specs.Prelude.{sum_by}
use Rattle.std.proofs.Math.Seq.{take-append_seam, drop-append_seam, drop-append-add}
use Rattle.std.proofs.lemmas.List.{length-take-le, length-drop, drop-drop}
use Rattle.std.proofs.lemmas.List.Sums.{sum_by-cons}
use Rattle.fit_base.specs.declared.order.Arch.{Arch}
use Rattle.fit_base.specs.Value.{values_of}
use Rattle.fit_grammar.specs.declared.definition.Definition.{Definition}
use Rattle.fit_grammar.specs.declared.definition.FieldDefinition.{FieldDefinition}
use Rattle.fit_grammar.specs.Format.Item.{fields_size}
use Rattle.fit_grammar.specs.Format.Message.{Message, MessageField, fields_of, developer_of, message_under}
use Rattle.fit_grammar.specs.Calls.ChangedContent.{content_with}

abbrev sizes : List FieldDefinition → ℕ
sizes fields = sum_by (λ field. field.size) fields

-- a change of a field's bytes keeps their size
abbrev pub KeepsSize : (FieldDefinition → List ℕ → List ℕ) → Type 0
KeepsSize change = (field : FieldDefinition) (bytes : List ℕ) → length (change field bytes) ≡ length bytes

abbrev pub field_read : Arch → FieldDefinition → List ℕ → MessageField
field_read arch field bytes = record {
  number = field.number;
  base = field.base;
  values = values_of (record { base = field.base; arch = arch; bytes = bytes });
}

-- the field that is read from changed bytes is the one from those before, changed
abbrev pub ReadsAs : Arch → (FieldDefinition → List ℕ → List ℕ) → (MessageField → MessageField) → Type 0
ReadsAs arch change changed =
    (field : FieldDefinition) (bytes : List ℕ) → field_read arch field (change field bytes) ≡ changed (field_read arch field bytes)

-- the changed bytes of the first field are as many as before
front_length : (change : FieldDefinition → List ℕ → List ℕ) → KeepsSize change → (field : FieldDefinition) (content : List ℕ)
    → field.size ≤ length content → length (change field (take field.size content)) ≡ field.size
front_length change keeps field content within = keeps field (take field.size content) ∙ length-take-le field.size content within

pub content_length : (change : FieldDefinition → List ℕ → List ℕ) → KeepsSize change → (fields : List FieldDefinition) (content : List ℕ)
    → sizes fields ≤ length content → length (content_with change fields content) ≡ length content
content_length change keeps [] content within = refl
content_length change keeps (field ∷ fields) content within =
    let front = change field (take field.size content) in
    let rest = content_with change fields (drop field.size content) in
    let sum = sum_by-cons (λ f. f.size) field fields in
    let left = length-drop field.size content in
    let one = front_length change keeps field content (omega (arith, within, sum)) in
    let others = content_length change keeps fields (drop field.size content) (omega (arith, within, sum, left)) in
    omega (arith, within, sum, left, one, others, length-append front rest)

-- the fields
fields_again : (arch : Arch) (change : FieldDefinition → List ℕ → List ℕ) (changed : MessageField → MessageField) → KeepsSize change → ReadsAs arch change changed
    → (fields : List FieldDefinition) (content : List ℕ) → sizes fields ≤ length content
    → fields_of arch fields (content_with change fields content) ≡ map changed (fields_of arch fields content)
fields_again arch change changed keeps reads [] content within = refl
fields_again arch change changed keeps reads (field ∷ fields) content within =
    let own = take field.size content in
    let front = change field own in
    let rest = content_with change fields (drop field.size content) in
    let sum = sum_by-cons (λ f. f.size) field fields in
    let left = length-drop field.size content in
    let size = front_length change keeps field content (omega (arith, within, sum)) in
    let first : take field.size (front ++ rest) ≡ front = ap (λ (n : ℕ). take n (front ++ rest)) (sym size) ∙ take-append_seam front rest in
    let after : drop field.size (front ++ rest) ≡ rest = ap (λ (n : ℕ). drop n (front ++ rest)) (sym size) ∙ drop-append_seam front rest in
    let again = fields_again arch change changed keeps reads fields (drop field.size content) (omega (arith, within, sum, left)) in
    ap (λ (bytes : List ℕ). field_read arch field bytes ∷ fields_of arch fields (drop field.size (front ++ rest))) first
    ∙ ap (λ (f : MessageField). f ∷ fields_of arch fields (drop field.size (front ++ rest))) (reads field own)
    ∙ ap (λ (bytes : List ℕ). changed (field_read arch field own) ∷ fields_of arch fields bytes) after
    ∙ ap (λ (others : List MessageField). changed (field_read arch field own) ∷ others) again

-- what comes after them stays
after_again : (change : FieldDefinition → List ℕ → List ℕ) → KeepsSize change → (fields : List FieldDefinition) (content : List ℕ)
    → sizes fields ≤ length content → drop (sizes fields) (content_with change fields content) ≡ drop (sizes fields) content
after_again change keeps [] content within = refl
after_again change keeps (field ∷ fields) content within =
    let front = change field (take field.size content) in
    let rest = content_with change fields (drop field.size content) in
    let sum = sum_by-cons (λ f. f.size) field fields in
    let left = length-drop field.size content in
    let size = front_length change keeps field content (omega (arith, within, sum)) in
    let again = after_again change keeps fields (drop field.size content) (omega (arith, within, sum, left)) in
    ap (λ (n : ℕ). drop n (front ++ rest)) sum
    ∙ ap (λ (n : ℕ). drop (n + sizes fields) (front ++ rest)) (sym size)
    ∙ drop-append-add front rest (sizes fields)
    ∙ again
    ∙ drop-drop (sizes fields) field.size content
    ∙ ap (λ (n : ℕ). drop n content) (sym sum)

abbrev message_by : Definition → List MessageField → List ℕ → Message
message_by d fields after = record { global = d.global; fields = fields; developer = developer_of d.arch d.developer.items after }

pub message_again : (d : Definition) (change : FieldDefinition → List ℕ → List ℕ) (changed : MessageField → MessageField) → KeepsSize change
    → ReadsAs d.arch change changed → (content : List ℕ) → fields_size d ≤ length content
    → message_under d None (content_with change d.fields.items content)
    ≡ message_by d (map changed (fields_of d.arch d.fields.items content)) (drop (fields_size d) content)
message_again d change changed keeps reads content within =
    ap (λ (fields : List MessageField). message_by d fields (drop (fields_size d) (content_with change d.fields.items content)))
    (fields_again d.arch change changed keeps reads d.fields.items content within)
    ∙ ap (message_by d (map changed (fields_of d.arch d.fields.items content))) (after_again change keeps d.fields.items content within)
