use Rattle.std.proofs.Common.{List, refl, subst, ◌∙◌}
use Rattle.fit_grammar.specs.Calls.LentItem.{LentItem, lent_item}
use Rattle.fit_grammar.specs.Calls.PlainForm.{plain_items}
use Rattle.fit_grammar.specs.Private.PlainWritten.{WrittenTo}
use Rattle.fit_grammar.proofs.PlainForm.Written.{written_first, written_next, written_off, fields_off, fields_passed}
use Rattle.fit_grammar.proofs.plain.writing.put_items.Goals as goal

pub loop-item-init : goal.loop-item-init
loop-item-init g c =
    let all = c.into_iter-item-iterator.ensures.into_iter_gives in
    written_first (g.S.Sink.held c.args.out.now) c.args.checksum.now c.args.file.now.items c.into_iter-item-iterator.result _
    (all ∙ c.items-item-items.ensures.items) (rw all c.items-item-items.ensures.under) refl

pub loop-item-preserved : goal.loop-item-preserved
loop-item-preserved g c =
    let held = g.S.Sink.held in
    let kept = subst (λ (left : List LentItem). WrittenTo (plain_items c.args.file.now.items) (held c.args.out.now) (held c.loop-item.out)
    c.args.checksum.now c.loop-item.checksum c.loop-item.timed left) c.in-Some.ensures.steps c.loop-item.invariant in
    written_next (plain_items c.args.file.now.items) (held c.args.out.now) (held c.loop-item.out) (held c.put_item.new.out) c.args.checksum.now
    c.loop-item.checksum c.put_item.new.checksum c.loop-item.timed c.put_item.new.timed (lent_item c.in-Some.item) c.next.new.self kept
    c.in_ok-put_item.ensures.text c.in_ok-put_item.ensures.timed c.in_ok-put_item.ensures.fields

pub returns-in_err-put_item-clause-text : goal.returns-in_err-put_item-clause-text
returns-in_err-put_item-clause-text g c =
    let held = g.S.Sink.held in
    let kept = subst (λ (left : List LentItem). WrittenTo (plain_items c.args.file.now.items) (held c.args.out.now) (held c.loop-item.out)
    c.args.checksum.now c.loop-item.checksum c.loop-item.timed left) c.in-Some.ensures.steps c.loop-item.invariant in
    written_off (plain_items c.args.file.now.items) (held c.args.out.now) (held c.loop-item.out) (held c.put_item.new.out) c.args.checksum.now
    c.loop-item.checksum c.put_item.new.checksum c.loop-item.timed (lent_item c.in-Some.item) c.next.new.self c.from_residual.ensures.0
    kept c.in_err-put_item.ensures.text

pub returns-in_err-put_item-clause-fields : goal.returns-in_err-put_item-clause-fields
returns-in_err-put_item-clause-fields g c =
    let held = g.S.Sink.held in
    let kept = subst (λ (left : List LentItem). WrittenTo (plain_items c.args.file.now.items) (held c.args.out.now) (held c.loop-item.out)
    c.args.checksum.now c.loop-item.checksum c.loop-item.timed left) c.in-Some.ensures.steps c.loop-item.invariant in
    fields_passed (plain_items c.args.file.now.items) c.from_residual.result c.in_err-put_item.field-0.0 c.from_residual.ensures.1
    (fields_off (plain_items c.args.file.now.items) (held c.args.out.now) (held c.loop-item.out) c.args.checksum.now
    c.loop-item.checksum c.loop-item.timed (lent_item c.in-Some.item) c.next.new.self c.in_err-put_item.field-0.0 kept c.in_err-put_item.ensures.fields)
