use Rattle.std.proofs.Common.{[], List, map, sym, ap, subst, ◌∙◌}
use Rattle.std.specs.List.{AllByRecursion}
use Rattle.fit_grammar.specs.Format.Encoding.{HasEncoding}
use Rattle.fit_grammar.specs.Calls.LentItem.{LentItem, lent_item, item_lent}
use Rattle.fit_grammar.specs.Private.ItemsWritten.{ItemsWritten}
use Rattle.fit_grammar.proofs.Encoder.Extended.{all_encodable, items_first, items_next, items_off}
use Rattle.fit_grammar.proofs.file.extending.put_own_items.Goals as goal

pub loop-item-init : goal.loop-item-init
loop-item-init g c =
    let items = c.args.file.now.items in
    let are = ap (map item_lent) c.into_iter-item-iterator.ensures.into_iter_gives ∙ c.items-item-items.ensures.same in
    items_first (g.S.Sink.held c.args.out.now) c.args.checksum.now items c.into_iter-item-iterator.result are
    (subst (AllByRecursion HasEncoding) (sym are) (all_encodable [] items c.frame-frame.ensures.possible.items_follow))

pub put_own_item-requires : goal.put_own_item-requires
put_own_item-requires g c =
    let held = g.S.Sink.held in
    let kept = subst (λ (left : List LentItem). ItemsWritten c.args.file.now.items (held c.args.out.now) (held c.loop-item.out)
    c.args.checksum.now c.loop-item.checksum left) c.in-Some.ensures.steps c.loop-item.invariant in
    kept.encodable.0

pub loop-item-preserved : goal.loop-item-preserved
loop-item-preserved g c =
    let held = g.S.Sink.held in
    let kept = subst (λ (left : List LentItem). ItemsWritten c.args.file.now.items (held c.args.out.now) (held c.loop-item.out)
    c.args.checksum.now c.loop-item.checksum left) c.in-Some.ensures.steps c.loop-item.invariant in
    items_next c.args.file.now.items (held c.args.out.now) (held c.loop-item.out) (held c.put_own_item.new.out) c.args.checksum.now
    c.loop-item.checksum c.put_own_item.new.checksum (lent_item c.in-Some.item) c.next.new.self kept c.in_ok-put_own_item.ensures

pub returns-in_err-put_own_item : goal.returns-in_err-put_own_item
returns-in_err-put_own_item g c =
    let held = g.S.Sink.held in
    let kept = subst (λ (left : List LentItem). ItemsWritten c.args.file.now.items (held c.args.out.now) (held c.loop-item.out)
    c.args.checksum.now c.loop-item.checksum left) c.in-Some.ensures.steps c.loop-item.invariant in
    items_off c.args.file.now.items (held c.args.out.now) (held c.loop-item.out) (held c.put_own_item.new.out) c.args.checksum.now
    c.loop-item.checksum c.put_own_item.new.checksum (lent_item c.in-Some.item) c.next.new.self c.from_residual.ensures.0
    kept c.in_err-put_own_item.ensures
