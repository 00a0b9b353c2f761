-- For a window and a lookup of definitions only one step is right. So `next_item` gives an answer whenever it is right.
use Rattle.std.proofs.Common.{◌≡◌, ℕ, List, [], ◌∷◌, ◌++◌, length, take, drop, Option, Some, None, refl, sym, ap, ◌∙◌, arith, append_assoc}
use Rattle.std.specs.Prelude.{IsSomeAnd}
use Rattle.std.proofs.lemmas.List.{take-append-drop, length-take, append-nil, length-append}
use Rattle.fit_grammar.specs.declared.definition.Definition.{Definition}
use Rattle.fit_grammar.specs.declared.item.ItemFault.TheVariants.{UndefinedLocal}
use Rattle.fit_grammar.specs.declared.item.Step.{Step}
use Rattle.fit_grammar.specs.declared.item.Step.TheVariants as steps
use Rattle.fit_grammar.specs.Format.Item.{Item, Defines, Data, Head, DefinitionHead, DataHead, head_of, Spells, content_size}
use Rattle.fit_grammar.specs.Format.Records.{IsDefinedBy}
use Rattle.fit_grammar.specs.Calls.Step.{item_of, ItemAtFront, ItemBegun, ShowsUndefined, StepReports, IsStepItem}
use Rattle.fit_grammar.proofs.OneItem.Spelling.{spelling_one}

-- one item at the front
pub items_one : (f : ℕ → Option Definition) (window : List ℕ) (i j : Item) (m n : ℕ) → ItemAtFront f window i m
    → ItemAtFront f window j n → (i ≡ j) × (m ≡ n)
items_one f window i j m n p q =
    let one = spelling_one f i j (take m window) (drop m window) (take n window) (drop n window) p.spelled q.spelled p.defined q.defined
    (take-append-drop m window ∙ sym (take-append-drop n window)) in
    let same : length (take m window) ≡ length (take n window) = ap length one.0 in
    let within = p.within in
    let inside = q.within in
    (one.1, omega (arith, same, length-take m window, length-take n window))

-- an item at the front is not a mere prefix of one
pub item_not_begun : (f : ℕ → Option Definition) (window : List ℕ) (i : Item) (used : ℕ) → ItemAtFront f window i used
    → ItemBegun f window → ⊥
item_not_begun f window i used p q =
    let whole : take used window ++ drop used window ++ q.rest ≡ (window ++ q.rest) ++ [] =
    ap (λ (x : List ℕ). x ++ q.rest) (take-append-drop used window) ∙ sym (append-nil (window ++ q.rest)) in
    let one = spelling_one f i q.item (take used window) (drop used window ++ q.rest) (window ++ q.rest) [] p.spelled
    q.spelled p.defined q.defined
    (sym (append_assoc (take used window) (drop used window) q.rest) ∙ whole) in
    let none : length (drop used window ++ q.rest) ≡ 0 = ap length one.2 in
    let more = q.more in
    absurd (omega (arith, none, length-append (drop used window) q.rest))

-- the head of an item, as it is spelled
abbrev pub item_head : (i : Item) (a : List ℕ) → Spells i a → Head
item_head (Defines d) a p = DefinitionHead d.local p.announced
item_head (Data local offset content) a p = DataHead local offset

pub spelling_head : (i : Item) (a x rest : List ℕ) (byte : ℕ) (p : Spells i a) → a ++ x ≡ byte ∷ rest → head_of byte ≡ item_head i a p
spelling_head (Defines d) a x rest byte p e =
    let laid = sym (ap (λ (z : List ℕ). z ++ x) p.laid_out) ∙ e in
    let first : byte ≡ p.first = cc in
    rw first p.head
spelling_head (Data local offset content) a x rest byte p e =
    let laid = sym (ap (λ (z : List ℕ). z ++ x) p.laid_out) ∙ e in
    let first : byte ≡ p.first = cc in
    rw first p.head

front_head : (f : ℕ → Option Definition) (window rest : List ℕ) (i : Item) (used byte : ℕ)
    → (p : ItemAtFront f window i used) → window ≡ byte ∷ rest → head_of byte ≡ item_head i (take used window) p.spelled
front_head f window rest i used byte p e =
    spelling_head i (take used window) (drop used window) rest byte p.spelled (take-append-drop used window ∙ e)

begun_head : (f : ℕ → Option Definition) (window rest : List ℕ) (byte : ℕ) → (p : ItemBegun f window)
    → window ≡ byte ∷ rest → head_of byte ≡ item_head p.item (window ++ p.rest) p.spelled
begun_head f window rest byte p e =
    spelling_head p.item (window ++ p.rest) [] (rest ++ p.rest) byte p.spelled
    (append-nil (window ++ p.rest) ∙ ap (λ (x : List ℕ). x ++ p.rest) e)

undefined_by : (o : Option Definition) (size : Definition → Type 0) → IsSomeAnd o size → o ≡ None → ⊥
undefined_by None size p e = p
undefined_by (Some d) size p e = cc

not_undefined : (f : ℕ → Option Definition) (i : Item) (a : List ℕ) (s : Spells i a) (l : ℕ) (o : Option ℕ) → IsDefinedBy f i
    → item_head i a s ≡ DataHead l o → f l ≡ None → ⊥
not_undefined f (Defines d) a s l o p e none = cc
not_undefined f (Data local offset content) a s l o p e none =
    let same : local ≡ l = cc in
    undefined_by (f local) (λ d. content_size d ≡ length content) p (ap f same ∙ none)

item_not_undefined : (f : ℕ → Option Definition) (window : List ℕ) (i : Item) (used l : ℕ)
    → ItemAtFront f window i used → ShowsUndefined f window l → ⊥
item_not_undefined f window i used l p q =
    not_undefined f i (take used window) p.spelled l q.offset p.defined (sym (front_head f window q.rest i used q.first p q.joined) ∙ q.head) q.undefined

begun_not_undefined : (f : ℕ → Option Definition) (window : List ℕ) (l : ℕ) → ItemBegun f window → ShowsUndefined f window l → ⊥
begun_not_undefined f window l p q =
    not_undefined f p.item (window ++ p.rest) p.spelled l q.offset p.defined (sym (begun_head f window q.rest q.first p q.joined) ∙ q.head) q.undefined

undefined_one : (f : ℕ → Option Definition) (window : List ℕ) (l m : ℕ) → ShowsUndefined f window l → ShowsUndefined f window m → l ≡ m
undefined_one f window l m p q =
    let joined = sym p.joined ∙ q.joined in
    let first : p.first ≡ q.first = cc in
    let head : DataHead l p.offset ≡ DataHead m q.offset = sym p.head ∙ ap head_of first ∙ q.head in
    cc

pub only_item : (f : ℕ → Option Definition) (window : List ℕ) (step : Step) (i : Item) (used : ℕ)
    → StepReports f window step → ItemAtFront f window i used → IsStepItem step i used
only_item f window (steps.Item j count) i used states p = items_one f window (item_of j) i count used states p
only_item f window steps.NeedMore i used states p = absurd (item_not_begun f window i used p states)
only_item f window (steps.Refused (UndefinedLocal l)) i used states p = absurd (item_not_undefined f window i used l p states)

pub only_more : (f : ℕ → Option Definition) (window : List ℕ) (step : Step) → StepReports f window step
    → ItemBegun f window → step ≡ steps.NeedMore
only_more f window (steps.Item j count) states p = absurd (item_not_begun f window (item_of j) count states p)
only_more f window steps.NeedMore states p = refl
only_more f window (steps.Refused (UndefinedLocal l)) states p = absurd (begun_not_undefined f window l p states)

pub only_undefined : (f : ℕ → Option Definition) (window : List ℕ) (step : Step) (l : ℕ) → StepReports f window step
    → ShowsUndefined f window l → step ≡ steps.Refused (UndefinedLocal l)
only_undefined f window (steps.Item j count) l states p = absurd (item_not_undefined f window (item_of j) count l states p)
only_undefined f window steps.NeedMore l states p = absurd (begun_not_undefined f window l states p)
only_undefined f window (steps.Refused (UndefinedLocal m)) l states p =
    ap (λ (k : ℕ). steps.Refused (UndefinedLocal k)) (undefined_one f window m l states p)
