-- A message whose content is moved is the message with its times moved.
use Rattle.std.proofs.Common.{◌≡◌, ℕ, ◌+◌, ◌-◌, ◌<◌, ◌≤◌, ◌&&◌, Bool, true, false, Option, Some, List, [], ◌∷◌, ◌++◌, length, take, drop, None, refl, ap, ◌∙◌, arith}
use Rattle.std.specs.Prelude.{sum_by}
use Rattle.std.specs.List.{list_all}
use Rattle.std.proofs.lemmas.List.{length-take, length-drop, take-append-drop}
use Rattle.fit_base.specs.declared.order.Arch.{Arch}
use Rattle.fit_base.specs.Value.{Values}
use Rattle.fit_grammar.specs.declared.definition.Definition.{Definition}
use Rattle.fit_grammar.specs.declared.definition.FieldDefinition.{FieldDefinition}
use Rattle.fit_grammar.specs.Format.Item.{fields_size}
use Rattle.fit_grammar.specs.Format.Message.{fields_of, message_under}
use Rattle.fit_grammar.proofs.ChangedContent.{message_again as content_again, content_length as length_again}
use Rattle.fit_shifting.specs.declared.shift.Shift.{Shift}
use Rattle.fit_shifting.specs.Moved.{can_move, can_move_field, can_move_time, moved, moved_field}
use Rattle.fit_shifting.specs.Private.Content.{can_move_compressed, field_moved, content_moved}
use Rattle.fit_shifting.proofs.Middle.{lent_length}
use Rattle.fit_shifting.proofs.MovedValues.{field_stays, free_field, values_again, field_length}

pub content_length : (shift : Shift) (message : ℕ) (arch : Arch) (fields : List FieldDefinition) (content : List ℕ)
    → sum_by (λ (field : FieldDefinition). field.size) fields ≤ length content → length (content_moved shift message arch fields content) ≡ length content
content_length shift message arch = length_again (field_moved shift message arch) (field_length shift message arch)

-- the moved bytes of a field that is lent in the content are as many as before
pub next_length : (shift : Shift) (message : ℕ) (arch : Arch) (field : FieldDefinition) (content new : List ℕ) (at : ℕ)
    → at + field.size ≤ length content → new ≡ field_moved shift message arch field (take (at + field.size - at) (drop at content))
    → length new ≡ field.size
next_length shift message arch field content new at within is =
    let count : at + field.size - at ≡ field.size = omega arith in
    ap length is ∙ field_length shift message arch field (take (at + field.size - at) (drop at content))
    ∙ ap (λ (n : ℕ). length (take n (drop at content))) count ∙ lent_length content at field.size within

pub message_again : (shift : Shift) (d : Definition) (content : List ℕ) → fields_size d ≤ length content
    → message_under d None (content_moved shift d.global d.arch d.fields.items content) ≡ moved shift (message_under d None content)
message_again shift d content within =
    content_again d (field_moved shift d.global d.arch) (moved_field shift d.global) (field_length shift d.global d.arch)
    (λ field bytes. ap (λ (values : Values). record { number = field.number; base = field.base; values = values })
    (values_again shift d.global d.arch field bytes)) content within

-- ---- less than four bytes have no times

pub content_stays : (shift : Shift) (message : ℕ) (arch : Arch) (fields : List FieldDefinition) (content : List ℕ) → length content < 4
    → content_moved shift message arch fields content ≡ content
content_stays shift message arch [] content short = refl
content_stays shift message arch (field ∷ fields) content short =
    let own = field_stays shift message arch field (take field.size content) (omega (arith, short, length-take field.size content)) in
    let rest = content_stays shift message arch fields (drop field.size content) (omega (arith, short, length-drop field.size content)) in
    ap (λ (bytes : List ℕ). bytes ++ content_moved shift message arch fields (drop field.size content)) own
    ∙ ap (λ (bytes : List ℕ). take field.size content ++ bytes) rest
    ∙ take-append-drop field.size content

free_fields : (shift : Shift) (message : ℕ) (arch : Arch) (fields : List FieldDefinition) (content : List ℕ) → length content < 4
    → list_all (can_move_field shift message) (fields_of arch fields content) ≡ true
free_fields shift message arch [] content short = refl
free_fields shift message arch (field ∷ fields) content short =
    let own = free_field shift message field.number field.base arch (take field.size content)
    (omega (arith, short, length-take field.size content)) in
    let rest = free_fields shift message arch fields (drop field.size content) (omega (arith, short, length-drop field.size content)) in
    rw (own, rest) refl

and_true : (b : Bool) → ((b && true) && true) ≡ b
and_true true = refl
and_true false = refl

-- such a message can be moved if its compressed timestamp can be
pub free_message : (shift : Shift) (d : Definition) (time : Option ℕ) (content : List ℕ) → length content < 4
    → can_move shift (message_under d time content) ≡ can_move_compressed shift time
free_message shift d None content short = free_fields shift d.global d.arch d.fields.items content short
free_message shift d (Some time) content short =
    ap (λ (b : Bool). (can_move_time shift time && true) && b) (free_fields shift d.global d.arch d.fields.items content short)
    ∙ and_true (can_move_time shift time)
