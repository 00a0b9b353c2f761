use Rattle.std.proofs.Common.{List, length, refl, ap, subst, ◌∙◌}
use Rattle.fit_grammar.specs.Calls.LentItem.{LentItem, lent_item}
use Rattle.fit_shifting.specs.Private.Plain.{MovedUpTo}
use Rattle.fit_shifting.proofs.MovedBytes.{moved_none, moved_on, item_there}
use Rattle.fit_shifting.proofs.Middle.{lent_end, back_end}
use Rattle.fit_shifting.proofs.plain.move_records.Goals as goal

pub loop-item-init : goal.loop-item-init
loop-item-init c =
    let all = c.into_iter-item-iterator.ensures.into_iter_gives in
    moved_none c.args.shift c.args.file.now _ _ _ c.into_iter-item-iterator.result c.requires refl refl (all ∙ c.items-item-items.ensures.items)
    (rw all c.items-item-items.ensures.under)

pub loop-item-preserved : goal.loop-item-preserved
loop-item-preserved c =
    let v = c.args.file.now in
    let l = c.loop-item in
    let item = lent_item c.in-Some.item in
    let left = c.next.new.self in
    let r = subst (λ (items : List LentItem). MovedUpTo c.args.shift v l.records l.at l.timed items) c.in-Some.ensures.steps l.invariant in
    let own = c.move_item-at.new.records in
    let begins = lent_end l.records l.at ∙ item_there c.args.shift v l.records l.at l.timed item left r in
    moved_on c.args.shift v l.records _ own l.at c.move_item-at.result l.timed c.move_item-at.new.timed item left r c.move_item-at.ensures.size
    c.move_item-at.ensures.timed (back_end l.records own l.at) (c.move_item-at.ensures.moved _ begins)
    (c.move_item-at.ensures.long ∙ ap length (lent_end l.records l.at))
