-- A message whose content changes is the message with its fields changed.
use Rattle.std.proofs.Common.{◌≡◌, ℕ, ◌+◌, ◌≤◌, List, [], ◌∷◌, length, map, take, drop, Option, None, refl, sym, ap, ◌∙◌}
use Rattle.std.specs.Prelude.{sum_by}
use Rattle.std.proofs.lemmas.List.Sums.{sum_by-cons}
use Rattle.fit_base.specs.declared.order.Arch.{Arch}
use Rattle.fit_base.specs.Value.{Values}
use Rattle.fit_grammar.specs.declared.definition.Definition.{Definition}
use Rattle.fit_grammar.specs.declared.definition.DeveloperFieldDefinition.{DeveloperFieldDefinition}
use Rattle.fit_grammar.specs.Format.Item.{fields_size, content_size}
use Rattle.fit_grammar.specs.Format.Message.{Message, MessageDeveloperField, developer_of, message_under}
use Rattle.fit_grammar.proofs.ChangedContent.{message_again as content_again, content_length as changed_length}
use Rattle.fit_joining.specs.declared.tally.Tally.{Tally}
use Rattle.fit_joining.specs.Makers.{index_in}
use Rattle.fit_joining.specs.Part.{changed, changed_developer, changed_field}
use Rattle.fit_joining.specs.Content.{field_changed, content_changed}
use Rattle.fit_joining.specs.JoinedItems.{definition_given, developer_given}
use Rattle.fit_joining.proofs.ChangedValues.{values_again, field_length}

-- ---- the indices of developer fields

abbrev developer_sizes : List DeveloperFieldDefinition → ℕ
developer_sizes fields = sum_by (λ field. field.size) fields

sizes_given : (given : List (Option ℕ)) (fields : List DeveloperFieldDefinition)
    → developer_sizes (map (developer_given given) fields) ≡ developer_sizes fields
sizes_given given [] = refl
sizes_given given (field ∷ fields) =
    sum_by-cons (λ (f : DeveloperFieldDefinition). f.size) (developer_given given field) (map (developer_given given) fields)
    ∙ ap (λ (n : ℕ). field.size + n) (sizes_given given fields)
    ∙ sym (sum_by-cons (λ (f : DeveloperFieldDefinition). f.size) field fields)

-- a content under a definition with such developer fields is as long as before
pub size_given : (given : List (Option ℕ)) (d : Definition) → content_size (definition_given given d) ≡ content_size d
size_given given d = ap (λ (n : ℕ). fields_size d + n) (sizes_given given d.developer.items)

developer_again : (given : List (Option ℕ)) (arch : Arch) (fields : List DeveloperFieldDefinition) (content : List ℕ)
    → developer_of arch (map (developer_given given) fields) content ≡ map (changed_developer given) (developer_of arch fields content)
developer_again given arch [] content = refl
developer_again given arch (field ∷ fields) content =
    let own : MessageDeveloperField =
    record { index = index_in given field.index; number = field.number; arch = arch; bytes = take field.size content } in
    ap (λ (others : List MessageDeveloperField). own ∷ others) (developer_again given arch fields (drop field.size content))

abbrev with_developer : Message → List MessageDeveloperField → Message
with_developer m developer = record { global = m.global; fields = m.fields; developer = developer }

-- a message under a definition with such developer fields
abbrev developer_changed : List (Option ℕ) → Message → Message
developer_changed given m = with_developer m (map (changed_developer given) m.developer)

under_given : (given : List (Option ℕ)) (d : Definition) (content : List ℕ)
    → message_under (definition_given given d) None content ≡ developer_changed given (message_under d None content)
under_given given d content =
    ap (with_developer (message_under d None content)) (developer_again given d.arch d.developer.items (drop (fields_size d) content))

-- ---- all of a message

pub message_again : (given : List (Option ℕ)) (t : Tally) (d : Definition) (content : List ℕ) → fields_size d ≤ length content
    → message_under (definition_given given d) None (content_changed given t d.global d.arch d.fields.items content)
    ≡ changed given t (message_under d None content)
message_again given t d content within =
    under_given given d (content_changed given t d.global d.arch d.fields.items content)
    ∙ ap (developer_changed given)
    (content_again d (field_changed given t d.global d.arch) (changed_field given t d.global) (field_length given t d.global d.arch)
    (λ field bytes. ap (λ (values : Values). record { number = field.number; base = field.base; values = values })
    (values_again given t d.global d.arch field bytes)) content within)

-- its content is as long as before
pub content_length : (given : List (Option ℕ)) (t : Tally) (d : Definition) (content : List ℕ) → fields_size d ≤ length content
    → length (content_changed given t d.global d.arch d.fields.items content) ≡ length content
content_length given t d content within =
    changed_length (field_changed given t d.global d.arch) (field_length given t d.global d.arch) d.fields.items content within
