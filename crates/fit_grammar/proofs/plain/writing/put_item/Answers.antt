use Rattle.std.proofs.Common.{◌++◌, ℕ, List, [], Bool, sym, ap, ◌∙◌, append-nil}
use Rattle.fit_grammar.specs.declared.item.row.FileItem.{FileItem}
use Rattle.fit_grammar.specs.Format.Item.{Item}
use Rattle.fit_grammar.specs.Format.Encoding.{encoded_item, encoded_items}
use Rattle.fit_grammar.specs.Calls.LentItem.{lent_item}
use Rattle.fit_grammar.specs.Calls.PlainForm.{definitions_before, is_timed, plain_item, plain_data}
use Rattle.fit_grammar.specs.Private.PlainSoFar.{lent_data}
use Rattle.fit_grammar.proofs.Encoder.Checked.{then_checked, stops_checked, checked_same}
use Rattle.fit_grammar.proofs.KeptRow.ReadAgain.{encoded_items-push}
use Rattle.fit_grammar.proofs.PlainForm.Written.{checked_ok}
use Rattle.fit_grammar.proofs.plain.writing.put_item.Goals as goal

pub returns-in_err-put_data-in-Data-clause-text : goal.returns-in_err-put_data-in-Data-clause-text
returns-in_err-put_data-in-Data-clause-text g c =
    let m = c.in-Data.message in
    let timed = c.args.timed.now in
    let own = plain_data (lent_data m c.in-Data.time) in
    let before : Bool → List Item = λ needs. definitions_before (is_timed timed m.local) needs m.definition in
    checked_same
    (then_checked c.in_ok-put_definition_before-in-Data.ensures.text
    (stops_checked c.from_residual-in_err-put_data-in-Data.ensures.0 c.in_err-put_data-in-Data.ensures _ []))
    (ap (λ (l : List ℕ). encoded_items (before c.is_some.result) ++ l) (append-nil (encoded_item own))
    ∙ ap (λ (needs : Bool). encoded_items (before needs) ++ encoded_item own) c.is_some.ensures
    ∙ sym (encoded_items-push (before _) own)
    ∙ ap (λ (i : FileItem). encoded_items (plain_item timed (lent_item i))) (sym c.in-Data.is))

pub returns-in_ok-put_data-in-Data-clause-text : goal.returns-in_ok-put_data-in-Data-clause-text
returns-in_ok-put_data-in-Data-clause-text g c =
    let m = c.in-Data.message in
    let timed = c.args.timed.now in
    let own = plain_data (lent_data m c.in-Data.time) in
    let before : Bool → List Item = λ needs. definitions_before (is_timed timed m.local) needs m.definition in
    checked_same (checked_ok (then_checked c.in_ok-put_definition_before-in-Data.ensures.text c.in_ok-put_data-in-Data.ensures))
    (ap (λ (needs : Bool). encoded_items (before needs) ++ encoded_item own) c.is_some.ensures
    ∙ sym (encoded_items-push (before _) own)
    ∙ ap (λ (i : FileItem). encoded_items (plain_item timed (lent_item i))) (sym c.in-Data.is))
