use Rattle.std.proofs.Common.{◌≡◌, [], List, ap, sym, subst, ◌∙◌, arith}
use Rattle.std.specs.List.{AllByRecursion}
use Rattle.fit_grammar.specs.Format.Item.{Item}
use Rattle.fit_grammar.specs.Format.File.{FileValue}
use Rattle.fit_grammar.specs.Format.Message.{messages_of}
use Rattle.fit_grammar.specs.declared.file.frame.Frame.{Frame}
use Rattle.fit_grammar.specs.Calls.LentItem.{LentItem, lent_item, items_lent}
use Rattle.fit_grammar.specs.Calls.PlainForm.{plain_items, plain_of, none_timed, IsPlain, IsPlainFault}
use Rattle.fit_grammar.specs.Private.PlainSoFar.{PlainSoFar}
use Rattle.fit_grammar.proofs.PlainForm.Messages.{all_plain}
use Rattle.fit_grammar.proofs.PlainForm.SoFar.{started, is_ready, went_on, refused, stands_at, has_room, ended, fitted, states, stays}
use Rattle.fit_grammar.proofs.PlainForm.Stood.{fault_in}
use Rattle.fit_grammar.proofs.plain.plain_file.Goals as goal

pub loop-item-init : goal.loop-item-init
loop-item-init c =
    let v = c.args.file.now in
    let is = c.into_iter-item-iterator.ensures.into_iter_gives in (
      c.new-plain.ensures.frame ∙ c.frame-frame.ensures.frame,
      started v c.new-plain.result.file.items c.new-plain.result.timed c.frame-frame.result.header_size c.into_iter-item-iterator.result
          c.new-plain.ensures.items c.new-plain.ensures.timed (ap (λ (f : Frame). f.header_size) c.frame-frame.ensures.frame)
          (is ∙ c.items-item-items.ensures.items) (rw is c.items-item-items.ensures.under) (rw is c.items-item-items.ensures.same),
    )

pub take-requires : goal.take-requires
take-requires c =
    is_ready c.args.file.now c.loop-item.plain.file.items c.loop-item.plain.timed c.loop-item.written (lent_item c.in-Some.item) c.next.new.self
    (subst (λ (left : List LentItem). PlainSoFar c.args.file.now c.loop-item.plain.file.items c.loop-item.plain.timed c.loop-item.written left)
    c.in-Some.ensures.steps c.loop-item.invariant.1)

pub read_at-place-requires : goal.read_at-place-requires
read_at-place-requires c =
    let room = has_room c.args.file.now c.loop-item.plain.file.items c.loop-item.plain.timed c.loop-item.written (lent_item c.in-Some.item)
    c.next.new.self
    (subst (λ (left : List LentItem). PlainSoFar c.args.file.now c.loop-item.plain.file.items c.loop-item.plain.timed c.loop-item.written left)
    c.in-Some.ensures.steps c.loop-item.invariant.1)
    c.frame-frame.ensures.possible in
    omega (arith, room)

refusal : (c : goal.After-drop-plain) → IsPlainFault c.args.file.now c.args.places.now (record { kind = c.in-Err.kind; place = c.read_at-place.result })
refusal c =
    let here = subst (λ (left : List LentItem). PlainSoFar c.args.file.now c.loop-item.plain.file.items c.loop-item.plain.timed
    c.loop-item.written left) c.in-Some.ensures.steps c.loop-item.invariant.1 in
    record {
      written = c.loop-item.written;
      is_item = stands_at c.args.file.now c.loop-item.plain.file.items c.loop-item.plain.timed c.loop-item.written (lent_item c.in-Some.item)
          c.next.new.self here;
      refused = refused c.args.file.now c.loop-item.plain.file.items c.loop-item.plain.timed c.loop-item.written (lent_item c.in-Some.item)
          c.next.new.self c.in-Err.kind here c.in-Err.ensures.too_long c.in-Err.ensures.memory;
      place_is = c.read_at-place.ensures;
    }

pub returns-in-Err-clause-fault : goal.returns-in-Err-clause-fault
returns-in-Err-clause-fault c = refusal c

pub returns-in-Err-clause-stood : goal.returns-in-Err-clause-stood
returns-in-Err-clause-stood c = λ bytes file places.
    fault_in bytes c.args.file.now c.args.places.now (record { kind = c.in-Err.kind; place = c.read_at-place.result }) file places (refusal c)

pub overflow_add-written : goal.overflow_add-written
overflow_add-written c =
    let room = has_room c.args.file.now c.loop-item.plain.file.items c.loop-item.plain.timed c.loop-item.written (lent_item c.in-Some.item)
    c.next.new.self
    (subst (λ (left : List LentItem). PlainSoFar c.args.file.now c.loop-item.plain.file.items c.loop-item.plain.timed c.loop-item.written left)
    c.in-Some.ensures.steps c.loop-item.invariant.1)
    c.frame-frame.ensures.possible in
    omega (arith, room, c.size-written.ensures)

pub loop-item-preserved : goal.loop-item-preserved
loop-item-preserved c =
    let v = c.args.file.now in
    let on = went_on v c.loop-item.plain.file.items c.take.new.self.file.items c.loop-item.plain.timed c.take.new.self.timed c.loop-item.written
    (lent_item c.in-Some.item) c.next.new.self
    (subst (λ (left : List LentItem). PlainSoFar v c.loop-item.plain.file.items c.loop-item.plain.timed c.loop-item.written left)
    c.in-Some.ensures.steps c.loop-item.invariant.1)
    c.in_default.ensures.fits c.in_default.ensures.items c.in_default.ensures.timed in (
      c.in_default.ensures.frame ∙ c.loop-item.invariant.0,
      rw c.size-written.ensures on,
    )

-- what is known after the last item
last : (c : goal.After-into_file) → PlainSoFar c.args.file.now c.loop-item.plain.file.items c.loop-item.plain.timed c.loop-item.written []
last c =
    subst (λ (left : List LentItem). PlainSoFar c.args.file.now c.loop-item.plain.file.items c.loop-item.plain.timed c.loop-item.written left)
    c.in-None.ensures.steps.0 c.loop-item.invariant.1

items : (c : goal.After-into_file) → c.into_file.result.items ≡ plain_items c.args.file.now.items
items c =
    ap (λ (v : FileValue). v.items) c.into_file.ensures
    ∙ ended c.args.file.now c.loop-item.plain.file.items c.loop-item.plain.timed c.loop-item.written (last c)

abbrev file_by : Frame → List Item → FileValue
file_by frame items = record { frame = frame; items = items }

is_plain : (c : goal.After-into_file) → c.into_file.result ≡ plain_of c.args.file.now
is_plain c =
    ap (λ (f : Frame). file_by f c.into_file.result.items)
    (ap (λ (v : FileValue). v.frame) c.into_file.ensures ∙ c.loop-item.invariant.0)
    ∙ ap (λ (is : List Item). file_by c.args.file.now.frame is) (items c)

pub returns-clause-plain : goal.returns-clause-plain
returns-clause-plain c = is_plain c

pub returns-clause-messages : goal.returns-clause-messages
returns-clause-messages c = ap messages_of (items c) ∙ states c.args.file.now c.frame-frame.ensures.possible

pub returns-clause-written_out : goal.returns-clause-written_out
returns-clause-written_out c =
    subst (λ (is : List Item). AllByRecursion IsPlain is) (sym (items c)) (all_plain none_timed (items_lent c.args.file.now.items))

pub returns-clause-same : goal.returns-clause-same
returns-clause-same c = λ plain.
    is_plain c ∙ ap (λ (is : List Item). file_by c.args.file.now.frame is) (stays c.args.file.now c.frame-frame.ensures.possible plain)

pub returns-clause-fits : goal.returns-clause-fits
returns-clause-fits c =
    fitted c.args.file.now c.loop-item.plain.file.items c.loop-item.plain.timed c.loop-item.written (last c)
