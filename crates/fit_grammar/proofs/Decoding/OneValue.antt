-- No bytes are a file of two values: for the law of that name.
use Rattle.std.proofs.Common.{◌≡◌, ℕ, List, [], ◌∷◌, ◌++◌, length, refl, sym, ap, ◌∙◌, arith}
use Rattle.std.proofs.lemmas.List.{append-nil, length-append}
use Rattle.fit_grammar.specs.declared.file.frame.Frame.{Frame}
use Rattle.fit_grammar.specs.Format.Item.{Item}
use Rattle.fit_grammar.specs.Format.Records.{RecordsAfter}
use Rattle.fit_grammar.specs.Format.File.{FileValue, FileOf}
use Rattle.fit_grammar.proofs.OneItem.Spelling.{spelling_not_empty}
use Rattle.fit_grammar.proofs.Decoding.Alignment.{GoesOn, longer, shorter}
use Rattle.fit_grammar.proofs.Decoding.Fronts.{file_front, file_is_front, same_fronts}

-- no bytes are the spellings of no items
no_items : (before : List Item) (bytes : List ℕ) (items : List Item) → length bytes ≡ 0 → RecordsAfter before bytes items → items ≡ []
no_items before bytes [] none r = refl
no_items before bytes (item ∷ items) none r =
    let own = spelling_not_empty item r.1.own r.1.spelled in
    absurd (omega (arith, none, ap length r.1.joined, length-append r.1.own r.0))

-- a row that continues with no bytes is the same row
same_row : (before : List Item) (a : List ℕ) (is : List Item) (x b : List ℕ) (js : List Item) (y : List ℕ) (more : List Item)
    → GoesOn before a is x b js y more → length a ≡ length b → is ≡ js
same_row before a is x b js y more g same =
    let none : length g.bytes ≡ 0 = omega (arith, same, ap length g.bytes_are, length-append a g.bytes) in
    sym (append-nil is) ∙ ap (λ (l : List Item). is ++ l) (sym (no_items (before ++ is) g.bytes more none g.goes_on)) ∙ sym g.items_are

value_same : (v w : FileValue) → v.frame ≡ w.frame → v.items ≡ w.items → v ≡ w
value_same v w frame items =
    let made : Frame → List Item → FileValue = λ f is. record { frame = f; items = is } in
    let e : made v.frame v.items ≡ made w.frame w.items = ap (λ (f : Frame). made f v.items) frame
    ∙ ap (λ (is : List Item). made w.frame is) items in
    e

pub one_value : (bytes : List ℕ) (v w : FileValue) → FileOf bytes v → FileOf bytes w → v ≡ w
one_value bytes v w p q =
    let same = same_fronts (file_front bytes v p) (file_front bytes w q) p.closing q.closing (file_is_front bytes v p)
    (file_is_front bytes w q) (sym p.joined ∙ q.joined) in
    let items : v.items ≡ w.items = elim same.records [
      | longer more g ↦ same_row [] p.records v.items p.closing q.records w.items q.closing more g same.size
      | shorter item others g ↦ sym (same_row [] q.records w.items q.closing p.records v.items p.closing (item ∷ others) g (sym same.size))
    ] in
    value_same v w same.frame items
