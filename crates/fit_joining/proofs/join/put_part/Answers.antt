use Rattle.std.proofs.Common.{List, ap, subst, ◌∙◌}
use Rattle.fit_grammar.specs.Format.Encoding.{encoded_items}
use Rattle.fit_grammar.specs.Format.Message.{messages_of}
use Rattle.fit_grammar.specs.Calls.LentItem.{LentItem, items_lent, lent_item, messages_in}
use Rattle.fit_joining.specs.Part.{tally_past}
use Rattle.fit_joining.specs.JoinedItems.{part_items}
use Rattle.fit_joining.specs.Private.Row.{LeavesPart}
use Rattle.fit_joining.proofs.WrittenRow.{part_begins, part_goes_on, part_off}
use Rattle.fit_joining.proofs.join.put_part.Goals as goal

pub loop-item-init : goal.loop-item-init
loop-item-init g c =
    let all = c.into_iter-item-iterator.ensures.into_iter_gives in
    part_begins c.args.given.now (g.S.Sink.held c.args.out.now) c.args.checksum.now c.args.part.now c.args.first c.into_iter-item-iterator.result
    c.frame-frame.ensures.possible c.requires (all ∙ c.items-item-items.ensures.items) (ap messages_in all ∙ c.items-item-items.ensures.messages)

pub put_item-requires : goal.put_item-requires
put_item-requires g c =
    let held = g.S.Sink.held in
    let v = c.args.part.now in
    let kept = subst (λ (left : List LentItem). LeavesPart (held c.args.out.now) (held c.loop-item.out) c.args.checksum.now c.loop-item.checksum
    (encoded_items (part_items c.args.given.now c.args.first (items_lent v.items))) (tally_past c.args.first (messages_of v.items)) c.loop-item.tally c.args.given.now left)
    c.in-Some.ensures.steps c.loop-item.invariant in
    let whole = kept.whole in whole.0

pub loop-item-preserved : goal.loop-item-preserved
loop-item-preserved g c =
    let held = g.S.Sink.held in
    let v = c.args.part.now in
    let text = encoded_items (part_items c.args.given.now c.args.first (items_lent v.items)) in
    let past = tally_past c.args.first (messages_of v.items) in
    let kept = subst (λ (left : List LentItem). LeavesPart (held c.args.out.now) (held c.loop-item.out) c.args.checksum.now c.loop-item.checksum
    text past c.loop-item.tally c.args.given.now left) c.in-Some.ensures.steps c.loop-item.invariant in
    part_goes_on c.args.given.now (held c.args.out.now) (held c.loop-item.out) (held c.put_item.new.out) c.args.checksum.now c.loop-item.checksum
    c.put_item.new.checksum text past c.loop-item.tally c.in_ok-tally.tally (lent_item c.in-Some.item) c.next.new.self kept
    c.in_ok-tally.ensures.text c.in_ok-tally.ensures.tally

pub returns-in_err-tally-clause-text : goal.returns-in_err-tally-clause-text
returns-in_err-tally-clause-text g c =
    let held = g.S.Sink.held in
    let v = c.args.part.now in
    let text = encoded_items (part_items c.args.given.now c.args.first (items_lent v.items)) in
    let past = tally_past c.args.first (messages_of v.items) in
    let kept = subst (λ (left : List LentItem). LeavesPart (held c.args.out.now) (held c.loop-item.out) c.args.checksum.now c.loop-item.checksum
    text past c.loop-item.tally c.args.given.now left) c.in-Some.ensures.steps c.loop-item.invariant in
    part_off c.args.given.now (held c.args.out.now) (held c.loop-item.out) (held c.put_item.new.out) c.args.checksum.now c.loop-item.checksum
    c.put_item.new.checksum c.put_item.new.checksum text past c.loop-item.tally (lent_item c.in-Some.item) c.next.new.self
    c.from_residual.ensures.0 kept c.in_err-tally.ensures.text
