use Rattle.std.proofs.Common.{List, ◌++◌, sym, ap, subst, ◌∙◌, arith}
use Rattle.fit_grammar.specs.Calls.LentItem.{LentItem, lent_item, messages_in}
use Rattle.fit_grammar.specs.declared.file.frame.Frame.{Frame}
use Rattle.fit_shifting.specs.Private.Read.{IsReadTo}
use Rattle.fit_shifting.proofs.Middle.{lent_end}
use Rattle.fit_shifting.proofs.ReadItems.{read_none, read_on, own_there, own_within, stuck_read}
use Rattle.fit_shifting.proofs.checking.find_stuck.Goals as goal

pub loop-item-init : goal.loop-item-init
loop-item-init c =
    let v = c.args.file.now in
    let is = c.into_iter-item-iterator.ensures.into_iter_gives in
    let header = ap (λ (f : Frame). f.header_size) c.frame-place.ensures.frame in
    let items = is ∙ c.items-item-items.ensures.items in
    record {
      messages = c.messages-messages.ensures ∙ sym (ap messages_in is ∙ c.items-item-items.ensures.messages);
      read = read_none c.args.bytes.now v c.args.shift _ c.into_iter-item-iterator.result c.requires header items
          (rw is c.items-item-items.ensures.same);
    }

pub loop-item-preserved : goal.loop-item-preserved
loop-item-preserved c =
    let v = c.args.file.now in
    let item = lent_item c.in-Some.item in
    let left = c.next.new.self in
    let steps = c.in-Some.ensures.steps in
    let r = subst (λ (items : List LentItem). IsReadTo c.args.bytes.now v c.args.shift c.loop-item.place items) steps c.loop-item.invariant.read in
    let same = c.loop-item.invariant.messages ∙ ap messages_in steps in
    let free = sym (c.is_stuck.ensures.stuck left same) ∙ c.if-is_stuck.false in
    let size = c.size_read-place.ensures r.rest_is.1.own (r.rest_is.0 ++ r.file.closing)
    (lent_end c.args.bytes.now c.loop-item.place ∙ own_there c.args.bytes.now v c.args.shift c.loop-item.place item left r) r.rest_is.1.spelled in
    record {
      messages = c.is_stuck.ensures.taken left same;
      read = read_on c.args.bytes.now v c.args.shift c.loop-item.place c.size_read-place.result item left r free size;
    }

pub overflow_add-place : goal.overflow_add-place
overflow_add-place c =
    let v = c.args.file.now in
    let item = lent_item c.in-Some.item in
    let left = c.next.new.self in
    let r = subst (λ (items : List LentItem). IsReadTo c.args.bytes.now v c.args.shift c.loop-item.place items) c.in-Some.ensures.steps
    c.loop-item.invariant.read in
    let size = c.size_read-place.ensures r.rest_is.1.own (r.rest_is.0 ++ r.file.closing)
    (lent_end c.args.bytes.now c.loop-item.place ∙ own_there c.args.bytes.now v c.args.shift c.loop-item.place item left r) r.rest_is.1.spelled in
    omega (arith, size, own_within c.args.bytes.now v c.args.shift c.loop-item.place item left r)

pub returns-then-is_stuck-clause-stuck : goal.returns-then-is_stuck-clause-stuck
returns-then-is_stuck-clause-stuck c =
    let item = lent_item c.in-Some.item in
    let left = c.next.new.self in
    let steps = c.in-Some.ensures.steps in
    let r = subst (λ (items : List LentItem). IsReadTo c.args.bytes.now c.args.file.now c.args.shift c.loop-item.place items) steps
    c.loop-item.invariant.read in
    let same = c.loop-item.invariant.messages ∙ ap messages_in steps in
    stuck_read c.args.bytes.now c.args.file.now c.args.shift c.loop-item.place item left r
    (sym (c.is_stuck.ensures.stuck left same) ∙ c.if-is_stuck.true)
