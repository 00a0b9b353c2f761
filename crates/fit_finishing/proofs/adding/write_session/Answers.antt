use Rattle.std.proofs.Common.{◌++◌, ap, ◌∙◌, sym, arith, append_assoc, take, None, append-nil}
use Rattle.fit_grammar.specs.Format.Item.{Defines, Data}
use Rattle.fit_grammar.specs.Format.Encoding.{encoded_item}
use Rattle.fit_grammar.proofs.Encoder.Encoded.{encoded_item-length}
use Rattle.fit_activity.specs.Messages.ProfileField.{as_content}
use Rattle.fit_finishing.specs.Effort.{effort_message}
use Rattle.fit_finishing.specs.Details.{session_with, sport_message, sport_place, with_bytes}
use Rattle.fit_finishing.proofs.Added.{taken_after}
use Rattle.fit_finishing.proofs.adding.write_session.Goals as goal

pub returns-clause-written : goal.returns-clause-written
returns-clause-written c =
    let m = session_with c.args.details c.args.message.now in
    let definition = encoded_item (Defines m.definition) in
    let before = take c.args.used c.args.out.now in
    let content_is = c.deref.ensures.0 ∙ c.session_content.ensures
    ∙ ap (λ own. with_bytes sport_place (as_content (sport_message c.args.details.sport)) own ++ as_content (effort_message c.args.details.effort)) c.content.ensures in
    let content = encoded_item (Data m.definition.local None m.content) in
    c.write_content.ensures.written
    ∙ ap (λ front. front ++ encoded_item (Data m.definition.local None c.deref.result.now))
    (taken_after c.args.used c.write_longer_definition.result c.args.out.now c.write_longer_definition.new.out _ definition _ (omega arith) c.write_longer_definition.ensures.written (c.write_longer_definition.ensures.count ∙ sym (encoded_item-length (Defines m.definition))))
    ∙ ap (λ bytes. (before ++ definition) ++ encoded_item (Data m.definition.local None bytes)) content_is
    ∙ append_assoc before definition content
    ∙ ap (λ rest. before ++ (definition ++ rest)) (sym (append-nil content))
