use Rattle.std.proofs.Common.{◌≡◌, length, ap, ◌∙◌, arith, length-append}
use Rattle.std.proofs.lemmas.List.{length_push}
use Rattle.fit_activity.specs.Messages.ProfileField.{field_definition, field_content}
use Rattle.fit_activity.proofs.Spelling.Fields.{present-can}
use Rattle.fit_activity.proofs.speaking.speech.SpokenMessage.spell_record.Goals as goal

pub put_present-requires : goal.put_present-requires
put_present-requires c =
    let begun = c.begin.new.self in
    let fields = ap (λ d. length d.fields.items) c.put.ensures.fields ∙ length_push begun.definition.fields.items (field_definition c.uint32.result) in
    let none : length begun.definition.fields.items ≡ 0 = ap (λ m. length m.definition.fields.items) c.begin.ensures in
    let content = ap length c.put.ensures.content ∙ length-append begun.content (field_content c.uint32.result) in
    let empty : length begun.content ≡ 0 = ap (λ m. length m.content) c.begin.ensures in
    let four : length (field_content c.uint32.result) ≡ 4 = ap (λ field. length (field_content field)) c.uint32.ensures.profile_field in
    present-can _ _ (omega (arith, fields, none)) (omega (arith, content, empty, four)) c.requires.few c.requires.short c.requires.fit
