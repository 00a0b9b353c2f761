use Rattle.std.proofs.Common.{◌≡◌, ◌++◌, ℕ, Bool, List, [], Option, refl, sym, ap, ◌∙◌, append-nil}
use Rattle.std.proofs.lemmas.Grind.{flat_map-append}
use Rattle.fit_grammar.specs.Format.Item.{Item}
use Rattle.fit_grammar.specs.Format.Encoding.{encoded_item, encoded_items}
use Rattle.fit_grammar.specs.Format.Message.{messages_of}
use Rattle.fit_grammar.specs.Calls.LentItem.{items_lent}
use Rattle.fit_grammar.proofs.Encoder.Checked.{then_checked, stops_checked, checked_same}
use Rattle.fit_grammar.proofs.PlainForm.Written.{checked_ok}
use Rattle.fit_joining.specs.declared.span.Span.{Span}
use Rattle.fit_joining.specs.declared.tally.Tally.{Tally}
use Rattle.fit_joining.specs.Timer.{span_of, start_due, stop_due}
use Rattle.fit_joining.specs.JoinedItems.{event_items, one_items, part_items}
use Rattle.fit_joining.proofs.join.put_one.Goals as goal

abbrev event_bytes : Option ℕ → ℕ → List ℕ
event_bytes time type = encoded_items (event_items time type)

-- the pieces that are written one after another
pieces : (given : List (Option ℕ)) (t : Tally) (followed : Bool) (items : List Item) (span : Span) (start stop : Option ℕ) → span ≡ span_of t.keeps_laps (messages_of items)
    → start ≡ start_due t.follows span → stop ≡ stop_due followed span
    → event_bytes start 0 ++ (encoded_items (part_items given t (items_lent items)) ++ event_bytes stop 4) ≡ encoded_items (one_items given t followed items)
pieces given t followed items span start stop span_is start_is stop_is =
    let own = part_items given t (items_lent items) in
    let all = span_of t.keeps_laps (messages_of items) in
    let first = event_items (start_due t.follows all) 0 in
    let last = event_items (stop_due followed all) 4 in
    ap (λ (o : Option ℕ). event_bytes o 0 ++ (encoded_items own ++ event_bytes stop 4)) (start_is ∙ ap (start_due t.follows) span_is)
    ∙ ap (λ (o : Option ℕ). encoded_items first ++ (encoded_items own ++ event_bytes o 4)) (stop_is ∙ ap (stop_due followed) span_is)
    ∙ ap (λ (l : List ℕ). encoded_items first ++ l) (sym (flat_map-append encoded_item own last))
    ∙ sym (flat_map-append encoded_item first (own ++ last))

pub returns-in_err-put_event_at-clause-text : goal.returns-in_err-put_event_at-clause-text
returns-in_err-put_event_at-clause-text g c =
    let t = c.args.tally in
    let items = c.args.part.now.items in
    checked_same
    (stops_checked c.from_residual.ensures.0 c.in_err-put_event_at.ensures _
    (encoded_items (part_items c.args.given.now t (items_lent items)) ++ event_bytes (stop_due c.args.is_followed c.span_of-span.result) 4))
    (pieces c.args.given.now t c.args.is_followed items c.span_of-span.result _ _ c.span_of-span.ensures c.start_due.ensures refl)

pub returns-in_err-past-clause-text : goal.returns-in_err-past-clause-text
returns-in_err-past-clause-text g c =
    let t = c.args.tally in
    let items = c.args.part.now.items in
    checked_same
    (then_checked c.in_ok-put_event_at.ensures
    (stops_checked c.from_residual-in_err-past.ensures.0 c.in_err-past.ensures.text _
    (event_bytes (stop_due c.args.is_followed c.span_of-span.result) 4)))
    (pieces c.args.given.now t c.args.is_followed items c.span_of-span.result _ _ c.span_of-span.ensures c.start_due.ensures refl)

pub returns-in_err-put_event_at-2-clause-text : goal.returns-in_err-put_event_at-2-clause-text
returns-in_err-put_event_at-2-clause-text g c =
    let t = c.args.tally in
    let items = c.args.part.now.items in
    let own = encoded_items (part_items c.args.given.now t (items_lent items)) in
    let start = event_bytes c.start_due.result 0 in
    let stop = event_bytes c.stop_due.result 4 in
    checked_same
    (then_checked c.in_ok-put_event_at.ensures
    (then_checked c.in_ok-past.ensures.text (stops_checked c.from_residual-in_err-put_event_at-2.ensures.0 c.in_err-put_event_at-2.ensures _ [])))
    (ap (λ (l : List ℕ). start ++ (own ++ l)) (append-nil stop)
    ∙ pieces c.args.given.now t c.args.is_followed items c.span_of-span.result _ _ c.span_of-span.ensures c.start_due.ensures c.stop_due.ensures)

pub returns-clause-text : goal.returns-clause-text
returns-clause-text g c =
    let t = c.args.tally in
    let items = c.args.part.now.items in
    checked_same (checked_ok (then_checked c.in_ok-put_event_at.ensures (then_checked c.in_ok-past.ensures.text c.in_ok-put_event_at-2.ensures)))
    (pieces c.args.given.now t c.args.is_followed items c.span_of-span.result _ _ c.span_of-span.ensures c.start_due.ensures c.stop_due.ensures)
