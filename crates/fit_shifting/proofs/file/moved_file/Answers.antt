use Rattle.std.proofs.Common.{◌≡◌, List, ap, subst, ◌∙◌, sym}
use Rattle.std.specs.List.{AllByRecursion}
use Rattle.fit_grammar.specs.Format.Item.{Item}
use Rattle.fit_grammar.specs.Format.File.{FileValue}
use Rattle.fit_grammar.specs.Format.Message.{messages_of}
use Rattle.fit_grammar.specs.Calls.LentItem.{LentItem, lent_item, items_lent}
use Rattle.fit_grammar.specs.Calls.PlainForm.{IsPlain}
use Rattle.fit_shifting.specs.Private.Row.{MovedSoFar, items_moved}
use Rattle.fit_shifting.proofs.MovedRow.{started, can_take, goes_on, ended, states, all_plain}
use Rattle.fit_shifting.proofs.file.moved_file.Goals as goal

pub loop-item-init : goal.loop-item-init
loop-item-init c =
    let v = c.args.plain.now in
    let is = c.into_iter-item-iterator.ensures.into_iter_gives in
    record {
      frame = c.new-shifted.ensures.frame ∙ c.frame.ensures.frame;
      so_far = started c.args.shift v c.new-shifted.result.items c.into_iter-item-iterator.result c.frame.ensures.possible c.requires
          c.new-shifted.ensures.items (is ∙ c.items-item-items.ensures.items) (rw is c.items-item-items.ensures.under)
          (rw is c.items-item-items.ensures.same);
    }

pub put_moved-requires : goal.put_moved-requires
put_moved-requires c =
    let v = c.args.plain.now in
    can_take c.args.shift v c.loop-item.shifted (lent_item c.in-Some.item) c.next.new.self c.frame.ensures.possible
    (subst (λ (left : List LentItem). MovedSoFar c.args.shift v c.loop-item.shifted.items left) c.in-Some.ensures.steps c.loop-item.invariant.so_far)

pub loop-item-preserved : goal.loop-item-preserved
loop-item-preserved c =
    let v = c.args.plain.now in
    let put = c.in_ok-put_moved.ensures.put in
    record {
      frame = ap (λ (f : FileValue). f.frame) put ∙ c.loop-item.invariant.frame;
      so_far = rw put (goes_on c.args.shift v c.loop-item.shifted.items (lent_item c.in-Some.item) c.next.new.self
          (subst (λ (left : List LentItem). MovedSoFar c.args.shift v c.loop-item.shifted.items left) c.in-Some.ensures.steps
          c.loop-item.invariant.so_far));
    }

-- the items at the end
items : (c : goal.After-drop-content-2) → c.loop-item.shifted.items ≡ items_moved c.args.shift (items_lent c.args.plain.now.items)
items c =
    ended c.args.shift c.args.plain.now c.loop-item.shifted.items
    (subst (λ (left : List LentItem). MovedSoFar c.args.shift c.args.plain.now c.loop-item.shifted.items left) c.in-None.ensures.steps.0
    c.loop-item.invariant.so_far)

pub returns-clause-messages : goal.returns-clause-messages
returns-clause-messages c = ap messages_of (items c) ∙ states c.args.shift c.args.plain.now c.frame.ensures.possible c.requires

pub returns-clause-written_out : goal.returns-clause-written_out
returns-clause-written_out c =
    subst (λ (is : List Item). AllByRecursion IsPlain is) (sym (items c)) (all_plain c.args.shift (items_lent c.args.plain.now.items))
