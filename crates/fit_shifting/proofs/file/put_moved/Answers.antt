use Rattle.std.proofs.Common.{◌≡◌, ℕ, List, ◌++◌, length, None, refl, sym, ap, subst, ◌∙◌, arith, OnOk}
use Rattle.fit_grammar.specs.declared.item.row.FileItem.{FileItem}
use Rattle.fit_grammar.specs.Format.Item.{Data, content_size}
use Rattle.fit_grammar.specs.Calls.Adding.{IsTooLong, with_item}
use Rattle.fit_grammar.specs.Calls.LentItem.{lent_item}
use Rattle.fit_shifting.specs.Private.Content.{content_moved}
use Rattle.fit_shifting.specs.Private.Row.{CanTake, item_moved}
use Rattle.fit_shifting.proofs.Middle.{take_there}
use Rattle.fit_shifting.proofs.MovedMessage.{content_length}
use Rattle.fit_shifting.proofs.MovedRow.{only_memory}
use Rattle.fit_shifting.proofs.file.put_moved.Goals as goal
use Rattle.fit_shifting.proofs.file.put_moved.Goals.{After-data}

-- the content that is added
added : (c : After-data) → c.as_slice.result.now
    ≡ content_moved c.args.shift c.in-Data.message.definition.global c.in-Data.message.definition.arch
    c.in-Data.message.definition.fields.items c.in-Data.message.content.now
added c =
    let m = c.in-Data.message in
    let d = m.definition in
    let lent = c.as_mut_slice.result.now in
    let is : lent ≡ m.content.now =
    c.as_mut_slice.ensures.value ∙ c.in_ok-extend_from_slice-in-Data.ensures.items ∙ ap (λ (front : List ℕ). front ++ m.content.now) c.clear.ensures.items in
    let whole : content_size d ≡ length m.content.now = m.whole in
    let moved = c.move_content.ensures ∙ ap (content_moved c.args.shift d.global d.arch d.fields.items) is in
    let same = content_length c.args.shift d.global d.arch d.fields.items m.content.now (omega (arith, whole)) in
    c.as_slice.ensures.value
    ∙ take_there c.move_content.new.content _ _ c.extend_from_slice.new.self.len refl
    (omega (arith, c.as_mut_slice.ensures.len, ap length is, ap length moved, same))
    ∙ moved

pub returns-in_ok-extend_from_slice-in-Data-clause-put : goal.returns-in_ok-extend_from_slice-in-Data-clause-put
returns-in_ok-extend_from_slice-in-Data-clause-put c =
    let m = c.in-Data.message in
    subst (λ (i : FileItem). OnOk c.data.result (c.data.new.self ≡ with_item c.args.shifted.now (item_moved c.args.shift (lent_item i))))
    (sym c.in-Data.is)
    (subst (λ (bytes : List ℕ). OnOk c.data.result (c.data.new.self ≡ with_item c.args.shifted.now (Data m.local None bytes))) (added c)
    c.data.ensures.ok)

pub returns-in_ok-extend_from_slice-in-Data-clause-memory : goal.returns-in_ok-extend_from_slice-in-Data-clause-memory
returns-in_ok-extend_from_slice-in-Data-clause-memory c =
    let shift = c.args.shift in
    let v = c.args.shifted.now in
    let m = c.in-Data.message in
    let d = m.definition in
    let is = added c in
    let take = subst (λ (i : FileItem). CanTake shift v (lent_item i)) c.in-Data.is c.requires in
    let whole : content_size d ≡ length m.content.now = m.whole in
    let same = content_length shift d.global d.arch d.fields.items m.content.now (omega (arith, whole)) in
    only_memory c.data.result v m.local d c.as_slice.result.now c.data.ensures.undefined c.data.ensures.length c.data.ensures.too_long take.0
    (whole ∙ sym same ∙ sym (ap length is)) (λ long. take.1 (subst (λ (bytes : List ℕ). IsTooLong v (Data m.local None bytes)) is long))
