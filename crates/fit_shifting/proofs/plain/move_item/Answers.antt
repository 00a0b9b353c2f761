use Rattle.std.proofs.Common.{◌++◌, length, sym, ap, ◌∙◌, arith}
use Rattle.fit_grammar.specs.declared.item.row.FileItem.{FileItem}
use Rattle.fit_grammar.specs.Format.Encoding.{encoded_items}
use Rattle.fit_grammar.specs.Calls.LentItem.{LentData, data_under, lent_item}
use Rattle.fit_grammar.specs.Calls.PlainForm.{plain_item, definitions_before, is_timed}
use Rattle.fit_shifting.specs.Private.Plain.{plain_item_moved}
use Rattle.fit_shifting.proofs.MovedBytes.{definition_size, content_lent, content_back}
use Rattle.fit_shifting.proofs.plain.move_item.Goals as goal
use Rattle.fit_shifting.proofs.plain.move_item.Goals.{then-is_some, else-is_some}

pub move_data-requires : goal.move_data-requires
move_data-requires c =
    let own = c.in-Data.message in
    let m : LentData = data_under own.definition own.local own.offset c.in-Data.time own.content.now in
    let timed = c.args.timed.now in
    content_lent timed m c.args.records.now c.requires.begins.0 c.size_before-start.result c.if-is_some.end _ _
    (c.requires.begins.1 ∙ ap (λ (i : FileItem). encoded_items (plain_item timed (lent_item i)) ++ c.requires.begins.0) c.in-Data.is)
    (c.size_before-start.ensures.size
    ∙ ap (λ b. length (encoded_items (definitions_before (is_timed timed own.local) b own.definition))) c.is_some.ensures)
    (elim c.if-is_some.branch [
      | then-is_some w ↦ rw (sym c.is_some-in-Data.ensures ∙ w.if-is_some.true) w.end-is
      | else-is_some w ↦ rw (sym c.is_some-in-Data.ensures ∙ w.if-is_some.false) w.end-is
    ])
    (omega arith) (omega arith)

pub returns-in-Definition-clause-size : goal.returns-in-Definition-clause-size
returns-in-Definition-clause-size c =
    c.size_written.ensures.size ∙ definition_size c.in-Definition.definition
    ∙ ap (λ (i : FileItem). length (encoded_items (plain_item c.args.timed.now (lent_item i)))) (sym c.in-Definition.is)

pub returns-after-is_some-clause-moved : goal.returns-after-is_some-clause-moved
returns-after-is_some-clause-moved c = λ rest joined.
    let own = c.in-Data.message in
    let m : LentData = data_under own.definition own.local own.offset c.in-Data.time own.content.now in
    let timed = c.args.timed.now in
    content_back c.args.shift timed m c.args.records.now rest c.move_data.new.content c.size_before-start.result c.if-is_some.end _ _
    (joined ∙ ap (λ (i : FileItem). encoded_items (plain_item timed (lent_item i)) ++ rest) c.in-Data.is)
    (c.size_before-start.ensures.size
    ∙ ap (λ b. length (encoded_items (definitions_before (is_timed timed own.local) b own.definition))) c.is_some.ensures)
    (elim c.if-is_some.branch [
      | then-is_some w ↦ rw (sym c.is_some-in-Data.ensures ∙ w.if-is_some.true) w.end-is
      | else-is_some w ↦ rw (sym c.is_some-in-Data.ensures ∙ w.if-is_some.false) w.end-is
    ])
    (omega arith) (omega arith) c.move_data.ensures
    ∙ ap (λ (i : FileItem). encoded_items (plain_item_moved c.args.shift timed (lent_item i)) ++ rest) (sym c.in-Data.is)
